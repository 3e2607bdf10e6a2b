use Rattle.std.proofs.Common.{◌≡◌, ◌-◌, map}
use Rattle.sefl_syntax.specs.Views.{cond_tree}
use Rattle.sefl_builder.specs.Reading.{many, added}
use Rattle.sefl_builder.specs.Nets.{goes_test, where_test, tests}
use Rattle.sefl_builder.proofs.injection.read_tests.Given as goal

-- what was read, and what is still to be read, are the whole
abbrev pub invariant-loop : goal.invariant-loop
invariant-loop l = added (map cond_tree l.found.items) (many goes_test where_test (l.end - l.counter) l.words) ≡ tests l.fn.words
