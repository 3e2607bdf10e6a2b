use Rattle.difference_solver.specs.Choices.{lists_of}
use Rattle.difference_solver.specs.Progress.{IsWalkAt}
use Rattle.difference_solver.proofs.walk.Walk.take_single_cases.Given as goal

abbrev pub invariant-loop-choice : goal.invariant-loop-choice
invariant-loop-choice l = IsWalkAt l.count (lists_of l.choices) l.self
