use Rattle.std.proofs.Common.{◌≡◌, drop}
use Rattle.difference_solver.specs.Words.{comes_before}
use Rattle.difference_solver.proofs.order.is_before.Given as goal

abbrev pub invariant-loop-index : goal.invariant-loop-index
invariant-loop-index l = comes_before l.left l.right ≡ comes_before (drop l.index l.left) (drop l.index l.right)
