use Rattle.std.proofs.Common.{map, take}
use Rattle.std.specs.Prelude.{All}
use Rattle.difference_solver.specs.Bound.{IsInRange}
use Rattle.difference_solver.specs.Choices.{items_of}
use Rattle.number_tests.proofs.choices.choice_is_in_range.Given as goal

abbrev pub invariant-loop-case : goal.invariant-loop-case
invariant-loop-case l = All (All (IsInRange l.count)) (map items_of (take l.case-index l.choice.cases.items))
