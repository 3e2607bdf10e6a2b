use Rattle.std.proofs.Common.{◌≡◌, drop}
use Rattle.difference_solver.specs.Lifting.{all_apart}
use Rattle.difference_solver.proofs.lift.all_apart.Given as goal

abbrev pub invariant-loop-index : goal.invariant-loop-index
invariant-loop-index l = all_apart l.first l.limit l.indices ≡ all_apart l.first l.limit (drop l.index-index l.indices)
