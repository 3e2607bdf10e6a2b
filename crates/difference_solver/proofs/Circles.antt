-- Bounds that join head to tail, one after another.
use Rattle.std.proofs.Common.{◌≡◌, ℕ, ◌+◌, ◌<◌, ◌+ℤ◌, List, length, drop, get_or, Some, sym, ap, ◌∙◌, subst}
use Rattle.std.specs.Prelude.{slice_get}
use Rattle.std.proofs.lemmas.List.{drop_more}
use Rattle.difference_solver.specs.Cycle.{IsWalk, at_most_of, total}
use Rattle.difference_solver.specs.declared.bound.Bound.{Bound}

-- a bound, and then a walk from its other end
pub walk_before : (bounds : List Bound) (indices : List ℕ) (i place to : ℕ) (b : Bound) → i < length indices
    → slice_get bounds (get_or indices i 0) ≡ Some b → b.plus ≡ place
    → IsWalk bounds b.minus (drop (i + 1) indices) to → IsWalk bounds place (drop i indices) to
walk_before bounds indices i place to b lt e from w =
    subst (λ ns. IsWalk bounds place ns to) (sym (drop_more indices i 0 lt)) (b, e, from, w)

-- the sum of the bounds of the indices that are left
pub total_next : (bounds : List Bound) (indices : List ℕ) (i : ℕ) (b : Bound) → i < length indices
    → slice_get bounds (get_or indices i 0) ≡ Some b
    → total bounds (drop i indices) ≡ b.at_most +ℤ total bounds (drop (i + 1) indices)
total_next bounds indices i b lt e =
    ap (total bounds) (drop_more indices i 0 lt) ∙ ap (λ o. at_most_of o +ℤ total bounds (drop (i + 1) indices)) e
