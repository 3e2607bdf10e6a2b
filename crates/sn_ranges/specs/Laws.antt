use Rattle.std.specs.Prelude.{◌≡◌, ℕ, ◌≤◌, ◌↔◌, List, None, All}
use Rattle.sn_width.specs.Width.{FitsWidth}
use Rattle.sn_ranges.specs.Ranges.{Range, RangeSet, IsCanonical, is_member}
use Rattle.sn_ranges.specs.Faults.{fault_of}

-- two sets of one width with the same values are the same ranges
abbrev pub OneListForEachSet : Type 0
OneListForEachSet =
    (left right : RangeSet) → IsCanonical left.width left.pairs → IsCanonical right.width right.pairs
    → left.width ≡ right.width
    → ((value : ℕ) → FitsWidth left.width value → is_member left.pairs value ≡ is_member right.pairs value)
    → left ≡ right

-- a list has no fault exactly where each pair is in order and fits
abbrev pub FaultlessWhereAllFit : Type 0
FaultlessWhereAllFit =
    (width : ℕ) (pairs : List Range) →
    (fault_of width pairs ≡ None) ↔ All (λ pair. (pair.0 ≤ pair.1) × FitsWidth width pair.1) pairs
