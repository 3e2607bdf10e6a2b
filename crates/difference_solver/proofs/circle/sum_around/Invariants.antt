use Rattle.std.proofs.Common.{◌≡◌, drop}
use Rattle.std.specs.Prelude.{◌+ℤ◌}
use Rattle.difference_solver.specs.Cycle.{IsWalk, total}
use Rattle.difference_solver.proofs.circle.sum_around.Given as goal

-- where the indices that are left go on from the place, the whole is a walk; and the sum so far is that of the others
abbrev pub invariant-loop-index : goal.invariant-loop-index
invariant-loop-index l = record {
  walk : IsWalk l.bounds l.place (drop l.index-index l.indices) l.unknown → IsWalk l.bounds l.unknown l.indices l.unknown;
  sum : total l.bounds l.indices ≡ l.so_far +ℤ total l.bounds (drop l.index-index l.indices);
}
