use Rattle.std.proofs.Common.{◌≡◌, ℕ, ◌<◌, ◌≤◌, cond}
use Rattle.difference_solver.specs.Bound.{number}
use Rattle.difference_solver.specs.Parts.{has_label}
use Rattle.difference_solver.proofs.parts.put_part.Given as goal

abbrev pub invariant-loop-unknown : goal.invariant-loop-unknown
invariant-loop-unknown l =
    ((u : ℕ) → u < l.unknown
    → number l.values.items u ≡ cond (has_label l.labels l.label u) (number l.part u) (number l.initial.values.items u))
    × ((u : ℕ) → l.unknown ≤ u → number l.values.items u ≡ number l.initial.values.items u)
