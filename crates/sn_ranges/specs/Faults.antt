use Rattle.std.specs.Prelude.{ℕ, Bool, nat_lt, List, Option, Some, None, position}
use Rattle.sn_width.specs.Width.{max_value}
use Rattle.sn_ranges.specs.Ranges.{Range}
use Rattle.sn_ranges.specs.declared.fault.RangeFault.{RangeFault}
use Rattle.sn_ranges.specs.declared.fault.RangeFault.TheVariants.{Reversed, TooWide}

-- the first number of the pair is greater than its second
abbrev pub is_reversed : Range → Bool
is_reversed pair = nat_lt pair.1 pair.0

-- the second number of the pair is greater than the number
abbrev pub is_past : ℕ → Range → Bool
is_past max pair = nat_lt max pair.1

-- the fault of a list whose first pairs of both kinds stand at these places: a reversed pair goes before one that is too wide
abbrev pub fault_at : Option ℕ → Option ℕ → Option RangeFault
fault_at (Some reversed) past = Some (Reversed reversed)
fault_at None (Some past) = Some (TooWide past)
fault_at None None = None

-- the fault of a list of pairs for a width: its first reversed pair, else its first pair past the max
abbrev pub fault_of : ℕ → List Range → Option RangeFault
fault_of width pairs = fault_at (position is_reversed pairs) (position (is_past (max_value width)) pairs)
