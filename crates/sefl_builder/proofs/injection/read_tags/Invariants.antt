use Rattle.std.proofs.Common.{◌≡◌, ◌-◌}
use Rattle.sefl_builder.specs.Reading.{many, added}
use Rattle.sefl_builder.specs.Nets.{goes_tag, tag, tags}
use Rattle.sefl_builder.proofs.injection.read_tags.Given as goal

-- what was read, and what is still to be read, are the whole
abbrev pub invariant-loop : goal.invariant-loop
invariant-loop l = added l.found.items (many goes_tag tag (l.end - l.counter) l.words) ≡ tags l.fn.words
