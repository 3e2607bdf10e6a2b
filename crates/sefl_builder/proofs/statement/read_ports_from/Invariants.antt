use Rattle.std.proofs.Common.{◌≡◌, ◌-◌}
use Rattle.sefl_builder.specs.Reading.{many, added}
use Rattle.sefl_builder.specs.Conditions.{goes_comma}
use Rattle.sefl_builder.specs.Instructions.{next_port, ports_from}
use Rattle.sefl_builder.proofs.statement.read_ports_from.Given as goal

-- what was read, and what is still to be read, are the whole
abbrev pub invariant-loop : goal.invariant-loop
invariant-loop l =
    added l.found.items (many goes_comma next_port (l.end - l.counter) l.words) ≡ ports_from l.fn.first l.fn.words
