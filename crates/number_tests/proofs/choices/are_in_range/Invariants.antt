use Rattle.std.proofs.Common.{take}
use Rattle.difference_solver.specs.Choices.{AreInRange, lists_of}
use Rattle.number_tests.proofs.choices.are_in_range.Given as goal

abbrev pub invariant-loop-choice : goal.invariant-loop-choice
invariant-loop-choice l = AreInRange l.count (lists_of (take l.choice-index l.choices))
