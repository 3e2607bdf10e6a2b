use Rattle.std.proofs.Common.{◌≡◌, ◌-◌}
use Rattle.sefl_builder.specs.Reading.{many, added}
use Rattle.sefl_builder.specs.Nets.{goes_field, field, fields}
use Rattle.sefl_builder.proofs.injection.read_fields.Given as goal

-- what was read, and what is still to be read, are the whole
abbrev pub invariant-loop : goal.invariant-loop
invariant-loop l = added l.found.items (many goes_field field (l.end - l.counter) l.words) ≡ fields l.fn.words
