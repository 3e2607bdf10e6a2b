use Rattle.std.specs.Prelude.{◌≡◌, ℕ, zero, suc, ℤ, pos, ◌+ℤ◌, ◌+◌, ◌-◌, ◌≤◌, List, [], ◌∷◌, Option, Some, None, max}
use Rattle.difference_solver.specs.declared.table.Kept.{Kept}
use Rattle.difference_solver.specs.declared.table.Table.{Table}
use Rattle.difference_solver.specs.declared.gather.Pair.{Pair}
use Rattle.difference_solver.specs.Table.{entry}

-- the number of a bound that is kept
abbrev pub kept_at_most : Option Kept → ℤ
kept_at_most None = pos 0
kept_at_most (Some x) = x.at_most

-- a bound is kept on the pair
pub record IsKept (t : Table) (p : Pair) : Type 0 where
  pub kept : Kept
  pub at : entry t p.plus p.minus ≡ Some kept
  pub plus : p.plus ≤ t.count
  pub minus : p.minus ≤ t.count

-- bounds are kept on these pairs, and they join tail to head: the last has this plus, and the first this minus
abbrev pub Joins : Table → List Pair → ℕ → ℕ → Type 0
Joins t [] plus minus = plus ≡ minus
Joins t (p ∷ pairs) plus minus = IsKept t p × (p.minus ≡ minus) × Joins t pairs plus p.plus

-- the sum of the bounds that are kept on these pairs
abbrev pub pairs_total : Table → List Pair → ℤ
pairs_total t [] = pos 0
pairs_total t (p ∷ pairs) = kept_at_most (entry t p.plus p.minus) +ℤ pairs_total t pairs

-- how many steps it takes at most to come from a sum through an unknown to bounds that were given,
-- where this many unknowns are above it
unfoldable pub steps_of : ℕ → ℕ
steps_of zero = 1
steps_of (suc n) = 1 + (steps_of n + steps_of n)

unfoldable pub steps_left : ℕ → List Pair → ℕ
steps_left count [] = 0
steps_left count (p ∷ pairs) = steps_of (count - max p.plus p.minus) + steps_left count pairs
