use Rattle.std.proofs.Common.{take}
use Rattle.std.specs.Prelude.{All}
use Rattle.difference_solver.specs.Bound.{Meets}
use Rattle.difference_solver.proofs.met.are_met.Given as goal

abbrev pub invariant-loop-bound : goal.invariant-loop-bound
invariant-loop-bound l = All (Meets l.values) (take l.bound-index l.case)
