-- Bounds that no integers meet together.
use Rattle.std.specs.Prelude.{◌≡◌, ℕ, ℤ, pos, ◌+ℤ◌, ◌<ℤ◌, List, [], ◌∷◌, Option, Some, None, slice_get}
use Rattle.sn_width.specs.declared.ids.SymId.{SymId}
use Rattle.path_formula.specs.Bounds.{Case}
use Rattle.path_formula.specs.declared.sym_bound.SymBound.{SymBound}

-- the bounds of these numbers join head to tail: the first has this plus, the minus of each is the plus of the next, and
-- the last has this minus
abbrev pub IsWalk : Case → Option SymId → List ℕ → Option SymId → Type 0
IsWalk gathered plus [] minus = plus ≡ minus
IsWalk gathered plus (i ∷ rest) minus =
    (bound : SymBound) × (slice_get gathered i ≡ Some bound) × (bound.plus ≡ plus) × IsWalk gathered bound.minus rest minus

abbrev pub at_most_of : Option SymBound → ℤ
at_most_of None = pos 0
at_most_of (Some bound) = bound.at_most

-- the sum of the bounds of these numbers
abbrev pub total : Case → List ℕ → ℤ
total gathered [] = pos 0
total gathered (i ∷ rest) = at_most_of (slice_get gathered i) +ℤ total gathered rest

-- the bounds of these numbers join head to tail in a circle, and their sum is below zero; so there is one
pub record IsNegativeCycle (gathered : Case) (numbers : List ℕ) : Type 0 where
  pub start : Option SymId
  pub closed : IsWalk gathered start numbers start
  pub negative : total gathered numbers <ℤ pos 0
