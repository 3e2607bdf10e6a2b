use Rattle.std.proofs.Common.{◌≡◌, [], ℕ, length}
use Rattle.fib_model.specs.Sweeps.{set_at}
use Rattle.fib_model.proofs.sweep.no_sets.Given as goal

abbrev pub invariant-loop : goal.invariant-loop
invariant-loop l = record {
  len : length l.sets.items ≡ l.counter;
  empty : (q : ℕ) → set_at l.sets.items q ≡ [];
}
