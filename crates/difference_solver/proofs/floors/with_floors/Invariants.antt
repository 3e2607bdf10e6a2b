use Rattle.std.proofs.Common.{◌≡◌, ◌++◌, take}
use Rattle.difference_solver.specs.Floors.{bounds_of}
use Rattle.difference_solver.proofs.floors.with_floors.Given as goal

abbrev pub invariant-loop-floor : goal.invariant-loop-floor
invariant-loop-floor l = l.bounds.items ≡ l.gathered ++ bounds_of (take l.floor-index l.floors)
