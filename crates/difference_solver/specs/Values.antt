use Rattle.std.specs.Prelude.{◌≡◌, ◌≢◌, ℕ, ℤ, pos, ◌+ℤ◌, ◌≤ℤ◌, ◌*◌, ◌^◌, ◌<◌, List, length, Option, Some, None}
use Rattle.std.specs.Int.{int_max, int_min}
use Rattle.difference_solver.specs.declared.table.Kept.{Kept}
use Rattle.difference_solver.specs.declared.table.Table.{Table}
use Rattle.difference_solver.specs.Bound.{number}
use Rattle.difference_solver.specs.Table.{entry}
use Rattle.difference_solver.specs.Elimination.{IsWithin}

-- the larger of a number, if there is one, and another
abbrev pub larger_of : Option ℤ → ℤ → ℤ
larger_of None z = z
larger_of (Some y) z = int_max y z

-- the smaller of a number, if there is one, and another
abbrev pub smaller_of : Option ℤ → ℤ → ℤ
smaller_of None z = z
smaller_of (Some y) z = int_min y z

-- the number of each unknown is within a limit that grows with the unknown
abbrev pub AreWithin : List ℤ → Type 0
AreWithin v = (m : ℕ) → m < length v → IsWithin (m * 2 ^ 80) (number v m)

-- z is the least number of u that one of the bounds on an unknown below n less u allows
pub record IsReached (t : Table) (v : List ℤ) (u n : ℕ) (z : ℤ) : Type 0 where
  pub unknown : ℕ
  pub kept : Kept
  pub below : unknown < n
  pub at : entry t unknown u ≡ Some kept
  pub is : number v unknown ≡ z +ℤ kept.at_most

-- z is the least number of u that the bounds on the unknowns below n less u allow
pub record IsLowest (t : Table) (v : List ℤ) (u n : ℕ) (z : ℤ) : Type 0 where
  pub met : (m : ℕ) (x : Kept) → m < n → entry t m u ≡ Some x → number v m ≤ℤ (z +ℤ x.at_most)
  pub reached : IsReached t v u n z

-- z is the greatest number of u that the bounds on u less the unknowns below n allow
pub record IsHighest (t : Table) (v : List ℤ) (u n : ℕ) (z : ℤ) : Type 0 where
  pub met : (m : ℕ) (x : Kept) → m < n → entry t u m ≡ Some x → z ≤ℤ (number v m +ℤ x.at_most)
  pub unknown : ℕ
  pub kept : Kept
  pub below : unknown < n
  pub at : entry t u unknown ≡ Some kept
  pub is : z ≡ number v unknown +ℤ kept.at_most

-- no bound on an unknown below n less u is kept, or z is the least number of u that they allow
abbrev pub IsLowestOf : Table → List ℤ → ℕ → ℕ → Option ℤ → Type 0
IsLowestOf t v u n None = (m : ℕ) → m < n → entry t m u ≡ None
IsLowestOf t v u n (Some z) = IsLowest t v u n z

-- no bound on u less an unknown below n is kept, or z is the greatest number of u that they allow
abbrev pub IsHighestOf : Table → List ℤ → ℕ → ℕ → Option ℤ → Type 0
IsHighestOf t v u n None = (m : ℕ) → m < n → entry t u m ≡ None
IsHighestOf t v u n (Some z) = IsHighest t v u n z

-- z is a number of u, beside those of the unknowns below it
pub record IsNext (t : Table) (v : List ℤ) (u : ℕ) (z : ℤ) : Type 0 where
  pub first : u ≡ 0 → z ≡ pos 0
  pub lower : (m : ℕ) (x : Kept) → m < u → entry t m u ≡ Some x → number v m ≤ℤ (z +ℤ x.at_most)
  pub upper : (m : ℕ) (x : Kept) → m < u → entry t u m ≡ Some x → z ≤ℤ (number v m +ℤ x.at_most)
  pub reached : (m : ℕ) (x : Kept) → m < u → entry t m u ≡ Some x → IsReached t v u u z
  pub within : IsWithin (u * 2 ^ 80) z

-- the numbers meet the bounds that are kept, and one that has a bound from below reaches it
pub record AreValues (t : Table) (v : List ℤ) : Type 0 where
  pub first : 0 < length v → number v 0 ≡ pos 0
  pub met : (i j : ℕ) (x : Kept) → i < length v → j < length v → i ≢ j → entry t i j ≡ Some x → number v i ≤ℤ (number v j +ℤ x.at_most)
  pub reached : (u m : ℕ) (x : Kept) → u < length v → m < u → entry t m u ≡ Some x → IsReached t v u u (number v u)
  pub within : AreWithin v
