-- Values of symbols; some are given by integers.
use Rattle.std.specs.Prelude.{ℕ, ℤ, pos, negsuc, List, [], ◌∷◌, map, slice_set, slice_index}
use Rattle.sn_width.specs.declared.ids.SymId.{SymId}

-- the integer as a value, and 0 for one below zero
abbrev pub value_of : ℤ → ℕ
value_of (pos n) = n
value_of (negsuc n) = 0

-- the values, with these integers for the symbols, in order
abbrev pub with_integers : List ℕ → List SymId → List ℤ → List ℕ
with_integers values [] integers = values
with_integers values (s ∷ symbols) [] = values
with_integers values (s ∷ symbols) (z ∷ integers) = with_integers (slice_set values s.0 (value_of z)) symbols integers

-- the values of the symbols as integers
abbrev pub integers_of : List ℕ → List SymId → List ℤ
integers_of values symbols = map (λ s. pos (slice_index values s.0)) symbols
