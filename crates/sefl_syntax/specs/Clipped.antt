-- Ranges as far as they lie within a width.
use Rattle.std.specs.Prelude.{ℕ, ◌≤◌, List, [], ◌∷◌, Option, Some, None}
use Rattle.sn_width.specs.Width.{FitsWidth}
use Rattle.sn_ranges.specs.Ranges.{Range}

-- the pair is in order and fits the width
abbrev pub IsGoodPair : ℕ → Range → Type 0
IsGoodPair w pair = (pair.0 ≤ pair.1) × FitsWidth w pair.1

-- a list of the range that there is, or of none
abbrev pub kept_of : Option Range → List Range
kept_of None = []
kept_of (Some range) = range ∷ []
