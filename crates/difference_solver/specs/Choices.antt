-- Choices of cases, and integers that meet one case of each.
use Rattle.std.specs.Prelude.{◌≡◌, ◌⊎◌, ℕ, ℤ, pos, ◌<ℤ◌, ◌+◌, ◌<◌, ◌≤◌, List, [], ◌∷◌, ◌++◌, map, All, Contains, length, slice_index_or}
use Rattle.std.specs.Global.{Vec}
use Rattle.difference_solver.specs.declared.bound.Bound.{Bound}
use Rattle.difference_solver.specs.Bound.{Meets, number, IsInRange}
use Rattle.difference_solver.specs.declared.choice.Choice.{Choice}

-- bounds that are to be met together
abbrev pub Case : Type 0
Case = List Bound

abbrev pub items_of : Vec Bound → Case
items_of case = case.items

-- the cases of a choice
abbrev pub cases_of : Choice → List Case
cases_of choice = map items_of choice.cases.items

abbrev pub lists_of : List Choice → List (List Case)
lists_of choices = map cases_of choices

-- the cases of the choice at an index
abbrev pub cases_at : List (List Case) → ℕ → List Case
cases_at choices k = slice_index_or choices k []

-- the bounds, followed by those of each of the cases
abbrev pub with_each : Case → List Case → List Case
with_each bounds cases = map (λ case. bounds ++ case) cases

-- the integers meet all bounds of one of the cases
abbrev pub MeetsOne : List ℤ → List Case → Type 0
MeetsOne v [] = ⊥
MeetsOne v (case ∷ cases) = All (Meets v) case ⊎ MeetsOne v cases

-- the integers meet one case of each choice
abbrev pub MeetsEach : List ℤ → List (List Case) → Type 0
MeetsEach v [] = Unit {0}
MeetsEach v (cases ∷ choices) = MeetsOne v cases × MeetsEach v choices

-- integers for the unknowns 0 to count, the first of them 0, that meet one case of each choice
pub record IsMet (count : ℕ) (choices : List (List Case)) (v : List ℤ) : Type 0 where
  pub one_each : length v ≡ count + 1
  pub first : number v 0 ≡ pos 0
  pub met : MeetsEach v choices

-- v is w or comes before it in the order of words
abbrev pub IsUpTo : List ℤ → List ℤ → Type 0
IsUpTo [] w = Unit {0}
IsUpTo (x ∷ v) [] = ⊥
IsUpTo (x ∷ v) (y ∷ w) = (x <ℤ y) ⊎ ((x ≡ y) × IsUpTo v w)

-- the first integers in the order of words that meet one case of each choice
pub record IsLeast (count : ℕ) (choices : List (List Case)) (v : List ℤ) : Type 0 where
  pub met : IsMet count choices v
  pub least : (w : List ℤ) → IsMet count choices w → IsUpTo v w

-- no integers meet one case of each choice
abbrev pub IsUnmet : ℕ → List (List Case) → Type 0
IsUnmet count choices = (v : List ℤ) → IsMet count choices v → ⊥

-- the case has a bound on 0 less the unknown
abbrev pub HasBelow : ℕ → Case → Type 0
HasBelow u case = (b : Bound) × Contains case b × (b.plus ≡ 0) × (b.minus ≡ u)

-- each of the cases has a bound on 0 less the unknown
abbrev pub EachHasBelow : ℕ → List Case → Type 0
EachHasBelow u [] = Unit {0}
EachHasBelow u (case ∷ cases) = HasBelow u case × EachHasBelow u cases

-- each case of one of the choices has a bound on 0 less the unknown
abbrev pub OneHasBelow : ℕ → List (List Case) → Type 0
OneHasBelow u [] = ⊥
OneHasBelow u (cases ∷ choices) = EachHasBelow u cases ⊎ OneHasBelow u choices

-- each unknown above 0 is bounded from below, whatever cases are chosen
abbrev pub AreBelow : ℕ → List (List Case) → Type 0
AreBelow count choices = (u : ℕ) → 0 < u → u ≤ count → OneHasBelow u choices

-- the names and the numbers of all bounds are within the limits of a solver of bounds
abbrev pub AreInRange : ℕ → List (List Case) → Type 0
AreInRange count choices = All (All (All (IsInRange count))) choices
