use Rattle.std.proofs.Common.{◌≡◌, ◌-◌, map}
use Rattle.sefl_syntax.specs.Views.{port_tree}
use Rattle.sefl_builder.specs.Reading.{many, added}
use Rattle.sefl_builder.specs.Nets.{goes_port_code, port_code, port_codes}
use Rattle.sefl_builder.proofs.net.read_port_codes.Given as goal

-- what was read, and what is still to be read, are the whole
abbrev pub invariant-loop : goal.invariant-loop
invariant-loop l = added (map port_tree l.found.items) (many goes_port_code (port_code l.version) (l.end - l.counter) l.words) ≡ port_codes l.version l.fn.words
