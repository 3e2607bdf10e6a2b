use Rattle.std.proofs.Common.{map, take}
use Rattle.difference_solver.specs.Choices.{EachHasBelow, items_of}
use Rattle.number_tests.proofs.choices.each_has_below.Given as goal

abbrev pub invariant-loop-case : goal.invariant-loop-case
invariant-loop-case l = EachHasBelow l.unknown (map items_of (take l.case-index l.choice.cases.items))
