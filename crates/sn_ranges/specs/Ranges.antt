use Rattle.std.specs.Prelude.{◌≡◌, ℕ, ◌+◌, ◌^◌, ◌<◌, ◌≤◌, Bool, true, ◌&&◌, ◌||◌, nat_le, nat_lt, List, [], ◌∷◌, length, slice_index_or}
use Rattle.std.specs.List.{list_any}
use Rattle.sn_width.specs.Width.{FitsWidth}

-- a range with both its ends
abbrev pub Range : Type 0
Range = ℕ × ℕ

-- the number lies in the range
unfoldable pub in_range : Range → ℕ → Bool
in_range range value = nat_le range.0 value && nat_le value range.1

-- the number lies in one of the ranges
unfoldable pub is_member : List Range → ℕ → Bool
is_member ranges value = list_any (λ range. in_range range value) ranges

-- the ranges hold exactly the numbers that pass the test
abbrev pub HasExactly : List Range → (ℕ → Bool) → Type 0
HasExactly ranges test = (value : ℕ) → is_member ranges value ≡ test value

-- the number is a value of the width
abbrev pub fits_width : ℕ → ℕ → Bool
fits_width width value = nat_lt value (2 ^ width)

-- no range is empty, the first starts at the number or later, and each other after a gap
abbrev pub AscendFrom : ℕ → List Range → Type 0
AscendFrom least [] = Unit {0}
AscendFrom least (range ∷ rest) =
    (least ≤ range.0) × (range.0 ≤ range.1) × AscendFrom (range.1 + 2) rest

-- no range is empty, the ranges ascend, no two touch, and every member is a value of the width
pub record IsCanonical (width : ℕ) (ranges : List Range) : Type 0 where
  pub ascending : AscendFrom 0 ranges
  pub fits : (value : ℕ) → is_member ranges value ≡ true → FitsWidth width value

-- a set of values of a width, as its ranges
pub record RangeSet : Type 0 where
  pub width : ℕ
  pub pairs : List Range

-- the canonical ranges, of this width, of the numbers that pass the test
pub record IsSetOf (width : ℕ) (test : ℕ → Bool) (set : RangeSet) : Type 0 where
  pub same_width : set.width ≡ width
  pub canonical : IsCanonical set.width set.pairs
  pub members : HasExactly set.pairs test

-- the number is a member, and no member is less
pub record IsLeast (ranges : List Range) (value : ℕ) : Type 0 where
  pub member : is_member ranges value ≡ true
  pub least : (other : ℕ) → is_member ranges other ≡ true → value ≤ other

-- no range is empty, the first starts at the number or later, and each other no earlier than the one before it
abbrev pub StartFrom : ℕ → List Range → Type 0
StartFrom least [] = Unit {0}
StartFrom least (range ∷ rest) = (least ≤ range.0) × (range.0 ≤ range.1) × StartFrom range.0 rest

-- the start of the last range, or the number where there is none
unfoldable pub last_start : ℕ → List Range → ℕ
last_start none [] = none
last_start none (range ∷ rest) = last_start range.0 rest

-- the ranges that end in a window before its last number, and those behind them, of ascending ranges
pub record IsCut (ranges : List Range) (window : Range) (inside rest : List Range) : Type 0 where
  pub ascending : AscendFrom 0 inside
  pub rest_ascending : AscendFrom 0 rest
  pub starts : (k : ℕ) → k < length inside → window.0 ≤ (slice_index_or inside k (0, 0)).1
  pub ends : (k : ℕ) → k < length inside → (slice_index_or inside k (0, 0)).1 < window.1
  pub apart : (k : ℕ) → k < length inside → 0 < length rest → (slice_index_or inside k (0, 0)).1 < (slice_index_or rest 0 (0, 0)).0
  pub rest_ends : 0 < length rest → window.1 ≤ (slice_index_or rest 0 (0, 0)).1
  pub members : (value : ℕ) → (is_member ranges value && in_range window value)
      ≡ ((is_member inside value && in_range window value) || (is_member rest value && in_range window value))
  pub beyond : (value : ℕ) → window.1 < value → is_member rest value ≡ is_member ranges value
