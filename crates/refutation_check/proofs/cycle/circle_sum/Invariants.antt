use Rattle.std.proofs.Common.{◌≡◌, ◌↔◌, drop}
use Rattle.std.specs.Prelude.{◌+ℤ◌}
use Rattle.refutation_check.specs.Cycles.{IsWalk, total}
use Rattle.refutation_check.proofs.cycle.circle_sum.Given as goal

-- the numbers that are left go on from the place, and the sum so far is that of the others
abbrev pub invariant-loop-number : goal.invariant-loop-number
invariant-loop-number l = record {
  walk : IsWalk l.gathered l.start l.numbers l.start ↔ IsWalk l.gathered l.place (drop l.number-index l.numbers) l.start;
  sum : total l.gathered l.numbers ≡ l.so_far +ℤ total l.gathered (drop l.number-index l.numbers);
}
