-- The set of the numbers that pass a test.
use Rattle.std.specs.Prelude.{ℕ, zero, suc, ◌^◌, Bool, List, [], ◌∷◌, if◌then◌else◌, ◌==◌}
use Rattle.sn_ranges.specs.Ranges.{Range, RangeSet}

-- the ranges and one number more, which is less than all of theirs
abbrev pub with_number : ℕ → List Range → List Range
with_number number [] = (number, number) ∷ []
with_number number (range ∷ rest) = if range.0 == suc number then (number, range.1) ∷ rest else (number, number) ∷ range ∷ rest

-- the longest ranges of numbers that pass the test, among this many numbers from the first on
unfoldable pub ranges_from : (ℕ → Bool) → ℕ → ℕ → List Range
ranges_from test first zero = []
ranges_from test first (suc count) =
    if test first then with_number first (ranges_from test (suc first) count) else ranges_from test (suc first) count

-- the longest ranges of values of the width that pass the test, ascending
unfoldable pub ranges_where : ℕ → (ℕ → Bool) → List Range
ranges_where width test = ranges_from test 0 (2 ^ width)

-- the set of the values of the width that pass the test
abbrev pub set_of : ℕ → (ℕ → Bool) → RangeSet
set_of width test = record { width = width; pairs = ranges_where width test }
