-- Bounds, and lists of bounds that are met together.
use Rattle.std.specs.Prelude.{ℕ, ℤ, pos, ◌-ℤ◌, int_le, Bool, List, Option, Some, None, map, slice_index}
use Rattle.std.specs.Global.{Vec}
use Rattle.std.specs.List.{list_all, list_any}
use Rattle.sn_width.specs.declared.ids.SymId.{SymId}
use Rattle.path_formula.specs.declared.sym_bound.SymBound.{SymBound}
pub use Rattle.path_formula.specs.Typed.{AreValues}

-- bounds that are to be met together
abbrev pub Case : Type 0
Case = List SymBound

-- cases as the code holds them
abbrev pub items_of : Vec SymBound → Case
items_of case = case.items

abbrev pub lists_of : List (Vec SymBound) → List Case
lists_of cases = map items_of cases

-- the value of a symbol, and zero where there is none
abbrev pub number : List ℕ → Option SymId → ℤ
number values None = pos 0
number values (Some symbol) = pos (slice_index values symbol.0)

-- the values meet the bound, as integers
abbrev pub is_met : List ℕ → SymBound → Bool
is_met values bound = int_le (number values bound.plus -ℤ number values bound.minus) bound.at_most

-- the values meet each bound of the case
abbrev pub is_case_met : List ℕ → Case → Bool
is_case_met values case = list_all (is_met values) case

-- the values meet each bound of one of the cases
abbrev pub is_one_met : List ℕ → List Case → Bool
is_one_met values cases = list_any (is_case_met values) cases
