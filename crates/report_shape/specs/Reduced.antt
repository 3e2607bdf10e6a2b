-- A cell that holds a reduced term.
use Rattle.std.specs.Prelude.{ℕ, ◌^◌, ◌-◌, ◌&&◌, Bool, true, Option, Some, None, if◌then◌else◌, option_and_then, option_map, unwrap_or, nat_le, nat_lt}
use Rattle.serde_json.specs.Data.{Data, null, boolean, number, string, array, object, Items, no_items, item}
use Rattle.serde_json.specs.Find.{as_number, as_u64, as_array, at}
use Rattle.report_shape.specs.Numbers.{large_of}

-- the number of 64 bits at this place of a list, 0 where there is none
abbrev pub count_at : ℕ → Data → ℕ
count_at i d = unwrap_or (option_and_then as_u64 (option_and_then as_number (at i d))) 0

-- a number of 128 bits, 0 where it is none
abbrev pub number_in : Data → ℕ
number_in null = 0
number_in (boolean b) = 0
number_in (number n) = unwrap_or (as_u64 n) 0
number_in (string s) = unwrap_or (large_of s) 0
number_in (array ds) = 0
number_in (object ms) = 0

-- the number of 128 bits at this place of a list, 0 where there is none
abbrev pub number_at : ℕ → Data → ℕ
number_at i d = unwrap_or (option_map number_in (at i d)) 0

-- the items of the list at this place, none where there is no list
abbrev pub items_at : ℕ → Data → Items
items_at i d = unwrap_or (option_and_then as_array (at i d)) no_items

-- the greatest number of `width` bits, at most 128
abbrev pub greatest : ℕ → ℕ
greatest width = if nat_lt width 128 then 2 ^ width - 1 else 2 ^ 128 - 1

abbrev pub is_behind : Option ℕ → ℕ → Bool
is_behind None symbol = true
is_behind (Some last) symbol = nat_lt last symbol

-- a symbol behind the last one, with a coefficient from 1 to the greatest
abbrev pub term_fits : Option ℕ → ℕ → ℕ → ℕ → Bool
term_fits last most symbol coefficient = is_behind last symbol && (nat_lt 0 coefficient && nat_le coefficient most)

-- symbols with coefficients ascend
abbrev pub ascends : Option ℕ → ℕ → Items → Bool
ascends last most no_items = true
ascends last most (item d ds) = term_fits last most (count_at 0 d) (number_at 1 d) && ascends (Some (count_at 0 d)) most ds

-- a width, a constant and terms: the symbols ascend, no coefficient is 0, and no number is past the width's greatest; and a
-- width alone
abbrev pub is_reduced : Data → Bool
is_reduced d = nat_le (number_at 1 d) (greatest (count_at 0 d)) && ascends None (greatest (count_at 0 d)) (items_at 2 d)
