use Rattle.std.specs.Prelude.{◌≡◌, ◌≢◌, ℕ, ℤ, pos, neg_ℤ, ◌+ℤ◌, ◌≤ℤ◌, ◌<ℤ◌, ◌<◌, ◌≤◌, Option, Some, None, List, slice_get}
use Rattle.difference_solver.specs.declared.bound.Bound.{Bound}
use Rattle.difference_solver.specs.declared.table.Kept.{Kept}
use Rattle.difference_solver.specs.declared.table.Source.{Source}
use Rattle.difference_solver.specs.declared.table.Source.TheVariants.{Given, Sum}
use Rattle.difference_solver.specs.declared.table.Table.{Table}
use Rattle.difference_solver.specs.Kept.{lesser}
use Rattle.difference_solver.specs.Table.{entry}

-- a bound is kept, and it is at most c
abbrev pub AtMost : Option Kept → ℤ → Type 0
AtMost None c = ⊥
AtMost (Some x) c = x.at_most ≤ℤ c

-- the table says that i less j is at most c; of an unknown less itself it says what is true of zero
pub record Implies (t : Table) (i j : ℕ) (c : ℤ) : Type 0 where
  pub apart : i ≢ j → AtMost (entry t i j) c
  pub self : i ≡ j → pos 0 ≤ℤ c

-- z is at most so far from zero
abbrev pub IsWithin : ℕ → ℤ → Type 0
IsWithin limit z = (neg_ℤ (pos limit) ≤ℤ z) × (z ≤ℤ pos limit)

-- each bound of the table is between these limits
abbrev pub HasLimit : ℕ → Table → Type 0
HasLimit limit t = (p q : ℕ) (x : Kept) → entry t p q ≡ Some x → IsWithin limit x.at_most

-- the same of the row of one unknown
abbrev pub HasRowLimit : ℕ → ℕ → Table → Type 0
HasRowLimit limit p t = (q : ℕ) (x : Kept) → entry t p q ≡ Some x → IsWithin limit x.at_most

-- the sum of two bounds
abbrev pub sum_of : Option Kept → Option Kept → Option ℤ
sum_of None lower = None
sum_of (Some x) None = None
sum_of (Some x) (Some y) = Some (x.at_most +ℤ y.at_most)

-- the lesser of the bound that is kept and the sum of the two through the unknown k
abbrev pub least_sum : ℕ → Option Kept → Option Kept → Option Kept → Option Kept
least_sum k kept None lower = kept
least_sum k kept (Some x) None = kept
least_sum k kept (Some x) (Some y) = lesser kept record { at_most = x.at_most +ℤ y.at_most; source = Sum k }

-- row i of a table has got the sums through k, in the first n columns
pub record AddsRow (k i n : ℕ) (old new : Table) : Type 0 where
  pub count : new.count ≡ old.count
  pub sums : (j : ℕ) → j < n → i ≢ j → entry new i j ≡ least_sum k (entry old i j) (entry old i k) (entry old k j)
  pub rest : (j : ℕ) → (j < n → i ≡ j) → entry new i j ≡ entry old i j
  pub rows : (p q : ℕ) → p ≢ i → entry new p q ≡ entry old p q

-- the first n rows of a table have got the sums through k, in the first k columns
pub record AddsRows (k n : ℕ) (old new : Table) : Type 0 where
  pub count : new.count ≡ old.count
  pub sums : (i j : ℕ) → i < n → j < k → i ≢ j → entry new i j ≡ least_sum k (entry old i j) (entry old i k) (entry old k j)
  pub rest : (i j : ℕ) → (i < n → j < k → i ≡ j) → entry new i j ≡ entry old i j

-- for no unknown below n the two bounds between it and k sum below zero
abbrev pub HasNoLoop : ℕ → ℕ → Table → Type 0
HasNoLoop k n t = (i : ℕ) (x y : Kept) → i < n → entry t i k ≡ Some x → entry t k i ≡ Some y → pos 0 ≤ℤ (x.at_most +ℤ y.at_most)

-- the two bounds between i and k sum below zero
abbrev pub IsLoop : ℕ → ℕ → Table → Type 0
IsLoop k i t = (i < k) × (k ≤ t.count) × ((x : Kept) × (y : Kept) × (entry t i k ≡ Some x) × (entry t k i ≡ Some y) × ((x.at_most +ℤ y.at_most) <ℤ pos 0))

-- for each unknown above k, two bounds through it imply their sum
abbrev pub IsClosed : ℕ → Table → Type 0
IsClosed k t = (v i j : ℕ) (x y : Kept) → k < v → v ≤ t.count → i < v → j < v → entry t i v ≡ Some x → entry t v j ≡ Some y → Implies t i j (x.at_most +ℤ y.at_most)

-- the bound that was given at this index is on i less j, and it is c
pub record IsGiven (bounds : List Bound) (index i j : ℕ) (c : ℤ) : Type 0 where
  pub bound : Bound
  pub at : slice_get bounds index ≡ Some bound
  pub plus : bound.plus ≡ i
  pub minus : bound.minus ≡ j
  pub at_most : bound.at_most ≡ c

-- c is the sum of the bounds that are kept on i less v and on v less j, where v is above k, i and j
pub record IsSum (t : Table) (k v i j : ℕ) (c : ℤ) : Type 0 where
  pub above : k < v
  pub within : v ≤ t.count
  pub plus : i < v
  pub minus : j < v
  pub upper : Kept
  pub lower : Kept
  pub upper_at : entry t i v ≡ Some upper
  pub lower_at : entry t v j ≡ Some lower
  pub total : c ≡ upper.at_most +ℤ lower.at_most

abbrev pub IsFrom : List Bound → Table → ℕ → ℕ → ℕ → ℤ → Source → Type 0
IsFrom bounds t k i j c (Given index) = IsGiven bounds index i j c
IsFrom bounds t k i j c (Sum v) = IsSum t k v i j c

-- each bound of the table was given, or is a sum through an unknown above k
abbrev pub HasSources : List Bound → ℕ → Table → Type 0
HasSources bounds k t = (i j : ℕ) (x : Kept) → entry t i j ≡ Some x → IsFrom bounds t k i j x.at_most x.source

-- each bound of the table that is said to be a sum is one
abbrev pub HasSums : Table → Type 0
HasSums t = (i j v : ℕ) (x : Kept) → entry t i j ≡ Some x → x.source ≡ Sum v → IsSum t 0 v i j x.at_most

-- what is implied by the old table is implied by the new one
abbrev pub KeepsImplied : Table → Table → Type 0
KeepsImplied old new = (i j : ℕ) (c : ℤ) → Implies old i j c → Implies new i j c
