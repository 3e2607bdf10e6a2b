use Rattle.std.proofs.Common.{◌≡◌}
use Rattle.job_gen.specs.Splits.{state}
use Rattle.job_gen.proofs.Known.{AreFirst}
use Rattle.job_gen.proofs.split.splits.Given as goal

-- the splits of the boxes so far, and the last number that was drawn
abbrev pub invariant-loop : goal.invariant-loop
invariant-loop l = AreFirst l.fn.seed l.counter l.splits.items × (l.x ≡ state l.fn.seed l.counter)
