use Rattle.std.specs.Prelude.{◌≡◌, ℕ, ℤ, pos, ◌+ℤ◌, ◌<ℤ◌, List, [], ◌∷◌, Option, Some, None, slice_get}
use Rattle.difference_solver.specs.declared.bound.Bound.{Bound}

-- the bounds at these indices join head to tail: the first has this plus, the minus of each is the
-- plus of the next, and the last has this minus
abbrev pub IsWalk : List Bound → ℕ → List ℕ → ℕ → Type 0
IsWalk bounds plus [] minus = plus ≡ minus
IsWalk bounds plus (i ∷ indices) minus =
    (b : Bound) × (slice_get bounds i ≡ Some b) × (b.plus ≡ plus) × IsWalk bounds b.minus indices minus

abbrev pub at_most_of : Option Bound → ℤ
at_most_of None = pos 0
at_most_of (Some b) = b.at_most

-- the sum of the bounds at these indices
abbrev pub total : List Bound → List ℕ → ℤ
total bounds [] = pos 0
total bounds (i ∷ indices) = at_most_of (slice_get bounds i) +ℤ total bounds indices

-- the bounds at these indices join head to tail in a circle, and their sum is below zero; so the
-- list is not empty
pub record IsNegativeCycle (bounds : List Bound) (indices : List ℕ) : Type 0 where
  pub start : ℕ
  pub closed : IsWalk bounds start indices start
  pub negative : total bounds indices <ℤ pos 0
