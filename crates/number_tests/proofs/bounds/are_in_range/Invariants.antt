use Rattle.std.proofs.Common.{take}
use Rattle.std.specs.Prelude.{All}
use Rattle.difference_solver.specs.Bound.{IsInRange}
use Rattle.number_tests.proofs.bounds.are_in_range.Given as goal

abbrev pub invariant-loop-bound : goal.invariant-loop-bound
invariant-loop-bound l = All (IsInRange l.count) (take l.bound-index l.bounds)
