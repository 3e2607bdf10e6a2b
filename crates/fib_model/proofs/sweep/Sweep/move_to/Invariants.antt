use Rattle.std.proofs.Common.{◌≡◌, ℕ, ◌<◌, length, Option, All, max}
use Rattle.fib_model.specs.Sweeps.{AreOrdered, Goes}
use Rattle.fib_model.proofs.sweep.Sweep.move_to.Given as goal

abbrev pub invariant-loop-last : goal.invariant-loop-last
invariant-loop-last l = record {
  len : length l.self.sets.items ≡ length l.fn.self.sets.items;
  ports : All (λ p. p.port < length l.self.sets.items) l.self.pending.items;
  start : max l.self.start l.to ≡ max l.fn.self.start l.to;
  ordered : AreOrdered l.fn.self.sets.items → AreOrdered l.self.sets.items;
  goes : (whole : ℕ → Option ℕ) (rest : ℕ → Option ℕ → Option ℕ)
      → ((a : ℕ) (found : Option ℕ) → a < l.to → rest a found ≡ found)
      → Goes whole rest l.fn.self → Goes whole rest l.self;
}

abbrev pub decreases-loop-last : goal.decreases-loop-last
decreases-loop-last l = length l.self.pending.items
