use Rattle.std.proofs.Common.{length}
use Rattle.difference_solver.specs.Choices.{lists_of}
use Rattle.difference_solver.specs.Progress.{IsWalkPast}
use Rattle.difference_solver.proofs.walk.Walk.advance.Given as goal

abbrev pub invariant-loop-branch : goal.invariant-loop-branch
invariant-loop-branch l = IsWalkPast l.count (lists_of l.choices) l.self

abbrev pub decreases-loop-branch : goal.decreases-loop-branch
decreases-loop-branch l = length l.self.branches.items
