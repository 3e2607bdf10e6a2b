use Rattle.std.proofs.Common.{◌≡◌, ◌++◌, drop, string_bytes}
use Rattle.sefl_syntax.specs.CodeText.{more_ports_text, ports_text}
use Rattle.sefl_syntax.proofs.statement.write_ports.Given as goal

-- what is written, and the text of what is left, are the whole
abbrev pub invariant-loop-port : goal.invariant-loop-port
invariant-loop-port l =
    string_bytes l.out ++ more_ports_text (drop l.port-index l.rest) ≡ string_bytes l.fn.out ++ ports_text l.ports
