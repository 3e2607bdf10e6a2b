use Rattle.std.specs.Prelude.{◌≡◌, ℕ, ℤ, pos, neg_ℤ, ◌^◌, ◌+ℤ◌, ◌≤ℤ◌, ◌+◌, ◌<◌, ◌≤◌, List, All, Contains, length, slice_index_or}
use Rattle.difference_solver.specs.declared.bound.Bound.{Bound}

-- the number of an unknown, in a list that has one for each unknown in order
abbrev pub number : List ℤ → ℕ → ℤ
number v unknown = slice_index_or v unknown (pos 0)

-- the number of plus less that of minus is at most the bound
abbrev pub Meets : List ℤ → Bound → Type 0
Meets v b = number v b.plus ≤ℤ (number v b.minus +ℤ b.at_most)

-- integers for the unknowns 0 to count, the first of them 0, that meet all bounds
pub record IsSolution (count : ℕ) (bounds : List Bound) (v : List ℤ) : Type 0 where
  pub one_each : length v ≡ count + 1
  pub first : number v 0 ≡ pos 0
  pub met : All (Meets v) bounds

-- no integers for the unknowns 0 to count meet all bounds
abbrev pub IsUnsolvable : ℕ → List Bound → Type 0
IsUnsolvable count bounds = (v : List ℤ) → length v ≡ count + 1 → All (Meets v) bounds → ⊥

-- each unknown above 0 has a bound from below: one on 0 less that unknown
abbrev pub HasLowerBounds : ℕ → List Bound → Type 0
HasLowerBounds count bounds = (u : ℕ) → 0 < u → u ≤ count → (b : Bound) × Contains bounds b × (b.plus ≡ 0) × (b.minus ≡ u)

-- no solution has a smaller number at any unknown
abbrev pub IsLeast : ℕ → List Bound → List ℤ → Type 0
IsLeast count bounds v = (w : List ℤ) → IsSolution count bounds w → (u : ℕ) → u ≤ count → number v u ≤ℤ number w u

-- the names and the number of a bound are within the limits of `solve`
pub record IsInRange (count : ℕ) (b : Bound) : Type 0 where
  pub plus : b.plus ≤ count
  pub minus : b.minus ≤ count
  pub at_least : neg_ℤ (pos (2 ^ 66)) ≤ℤ b.at_most
  pub at_most : b.at_most ≤ℤ pos (2 ^ 66)
