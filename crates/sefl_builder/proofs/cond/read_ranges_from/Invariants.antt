use Rattle.std.proofs.Common.{◌≡◌, ◌-◌}
use Rattle.sefl_builder.specs.Reading.{many, added}
use Rattle.sefl_builder.specs.Conditions.{goes_comma, next_range, ranges_from}
use Rattle.sefl_builder.proofs.cond.read_ranges_from.Given as goal

-- what was read, and what is still to be read, are the whole
abbrev pub invariant-loop : goal.invariant-loop
invariant-loop l =
    added l.found.items (many goes_comma next_range (l.end - l.counter) l.words) ≡ ranges_from l.fn.first l.fn.words
