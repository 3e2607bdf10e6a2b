use Rattle.std.proofs.Common.{◌≡◌, ◌++◌, drop, map, string_bytes}
use Rattle.std.specs.List.{flat_map}
use Rattle.sefl_syntax.specs.NetText.{port_text}
use Rattle.sefl_syntax.specs.Views.{port_tree}
use Rattle.sefl_syntax.proofs.net_text.write_ports.Given as goal

-- what is written, and the text of what is left, are the whole
abbrev pub invariant-loop-port : goal.invariant-loop-port
invariant-loop-port l =
    string_bytes l.out ++ flat_map port_text (map port_tree (drop l.port-index l.ports)) ≡ string_bytes l.fn.out ++ flat_map port_text (map port_tree l.ports)
