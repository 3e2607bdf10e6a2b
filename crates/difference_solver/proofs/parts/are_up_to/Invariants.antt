use Rattle.std.proofs.Common.{ℕ, ◌<◌, ◌≤◌, get_or}
use Rattle.difference_solver.proofs.parts.are_up_to.Given as goal

abbrev pub invariant-loop-label : goal.invariant-loop-label
invariant-loop-label l = (k : ℕ) (d : ℕ) → k < l.label-index → get_or l.labels k d ≤ l.last
