use Rattle.difference_solver.specs.Choices.{lists_of}
use Rattle.difference_solver.specs.Progress.{IsWalkAt}
use Rattle.difference_solver.proofs.search.search.Given as goal

abbrev pub invariant-loop : goal.invariant-loop
invariant-loop l = IsWalkAt l.count (lists_of l.choices) l.walk
