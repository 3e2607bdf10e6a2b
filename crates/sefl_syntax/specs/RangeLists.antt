-- The set that a list of ranges keeps beside it.
use Rattle.std.specs.Prelude.{◌≡◌, List, Option, None, Some}
use Rattle.std.specs.declared.alloc.Global.{Global}
use Rattle.std.specs.declared.rc.Rc.{Rc}
use Rattle.sn_ranges.specs.Ranges.{Range, RangeSet, is_member}
use Rattle.sn_ranges.specs.Sets.{set_of}

-- the set holds the values of its width that lie in one of the ranges
abbrev pub IsKept : List Range → RangeSet → Type 0
IsKept ranges set = set ≡ set_of set.width (is_member ranges)

-- so does the set that there is, if any
abbrev pub KeepsSet : List Range → Option (Rc RangeSet Global) → Type 0
KeepsSet ranges None = Unit {0}
KeepsSet ranges (Some set) = IsKept ranges set.value
