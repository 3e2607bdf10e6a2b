use Rattle.std.proofs.Common.{◌≡◌, map, take}
use Rattle.difference_solver.specs.Lifting.{lowered}
use Rattle.difference_solver.proofs.lift.all_lowered.Given as goal

abbrev pub invariant-loop-index : goal.invariant-loop-index
invariant-loop-index l = l.after.items ≡ map (lowered l.first l.width) (take l.index-index l.indices)
