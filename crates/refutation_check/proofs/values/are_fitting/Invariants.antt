use Rattle.std.proofs.Common.{ℕ, ◌<◌}
use Rattle.std.specs.Prelude.{slice_index}
use Rattle.refutation_check.specs.Least.{FitsAt}
use Rattle.refutation_check.proofs.values.are_fitting.Given as goal

-- the values so far fit
abbrev pub invariant-loop-place : goal.invariant-loop-place
invariant-loop-place l = (k : ℕ) → k < l.place → FitsAt l.cond.widths k (slice_index l.values k)
