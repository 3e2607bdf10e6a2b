-- Unknowns of a part, numbered anew.
use Rattle.std.specs.Prelude.{◌==◌, ℕ, zero, suc, ℤ, pos, Bool, List, [], ◌∷◌, map, if◌then◌else◌}
use Rattle.difference_solver.specs.declared.bound.Bound.{Bound}
use Rattle.difference_solver.specs.Bound.{number}
use Rattle.difference_solver.specs.Choices.{Case}

-- the number, where it passes
abbrev pub one_name : (ℕ → Bool) → ℕ → List ℕ
one_name test u = if test u then u ∷ [] else []

-- the numbers that pass, among this many from the first on
abbrev pub passing : (ℕ → Bool) → ℕ → ℕ → List ℕ
passing test first zero = []
passing test first (suc n) = if test first then first ∷ passing test (suc first) n else passing test (suc first) n

-- the unknowns from 0 to count that pass
abbrev pub names_of : (ℕ → Bool) → ℕ → List ℕ
names_of test count = passing test 0 (suc count)

-- the new number of an unknown, which is its place among the names
abbrev pub place_of : List ℕ → ℕ → ℕ
place_of [] u = 0
place_of (name ∷ names) u = if name == u then 0 else suc (place_of names u)

abbrev pub renamed : List ℕ → Bound → Bound
renamed names b = record { plus = place_of names b.plus; minus = place_of names b.minus; at_most = b.at_most }

abbrev pub renamed_case : List ℕ → Case → Case
renamed_case names case = map (renamed names) case

abbrev pub renamed_cases : List ℕ → List Case → List Case
renamed_cases names cases = map (renamed_case names) cases

abbrev pub renamed_choices : List ℕ → List (List Case) → List (List Case)
renamed_choices names choices = map (renamed_cases names) choices

-- the integer of an unknown by that of its new number; 0 where the unknown does not pass
abbrev pub spread_at : (ℕ → Bool) → List ℕ → List ℤ → ℕ → ℤ
spread_at test names v u = if test u then number v (place_of names u) else pos 0

-- the integers of this many unknowns from the first on
abbrev pub spread : (ℕ → Bool) → List ℕ → List ℤ → ℕ → ℕ → List ℤ
spread test names v first zero = []
spread test names v first (suc n) = spread_at test names v first ∷ spread test names v (suc first) n
