use Rattle.std.proofs.Common.{◌≡◌, drop}
use Rattle.difference_solver.specs.Floors.{below_of}
use Rattle.difference_solver.proofs.floors.below_of.Given as goal

abbrev pub invariant-loop-bound : goal.invariant-loop-bound
invariant-loop-bound l = below_of l.unknown l.case ≡ below_of l.unknown (drop l.bound-index l.case)
