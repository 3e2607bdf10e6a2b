-- What the simple formulas of a condition decide.
use Rattle.std.specs.Prelude.{◌≡◌, ℕ, ◌<◌, ◌≤◌, nat_lt, Bool, true, false, if◌then◌else◌, List, Some, None, length, slice_index}
use Rattle.sn_width.specs.declared.ids.SymId.{SymId}
use Rattle.path_formula.specs.Kinds.{kind_of}
use Rattle.path_formula.specs.View.{view}
use Rattle.path_formula.specs.declared.kinds.Kind.{Kind}
use Rattle.path_formula.specs.declared.kinds.Kind.TheVariants.{Constant, Simple, Inside, Outside}
use Rattle.path_cond.specs.Conditions.{Condition, Entry, entry_holds, first_broken, is_possible, simple_picks}
use Rattle.interval_solver.specs.declared.decide.SimpleVerdict.{SimpleVerdict}
use Rattle.interval_solver.specs.declared.decide.SimpleVerdict.TheVariants.{Values, False, Empty}

-- the number is the least possible value of the symbol
pub record IsLeastPossible (cond : Condition) (s : SymId) (value : ℕ) : Type 0 where
  pub possible : is_possible cond s value ≡ true
  pub least : (other : ℕ) → is_possible cond s other ≡ true → value ≤ other

-- one number for each of the first N symbols; each is the least possible value of its symbol
pub record AreLeastOfFirst (cond : Condition) (count : ℕ) (values : List ℕ) : Type 0 where
  pub count_is : length values ≡ count
  pub each : (s : SymId) → s.0 < count → IsLeastPossible cond s (slice_index values s.0)

-- one number for each symbol, each the least possible value of its symbol
abbrev pub AreLeastValues : Condition → List ℕ → Type 0
AreLeastValues cond values = AreLeastOfFirst cond (length cond.widths) values

-- the symbol is the first that has no possible value
pub record IsFirstWithoutValue (cond : Condition) (s : SymId) : Type 0 where
  pub known : s.0 < length cond.widths
  pub no_value : (value : ℕ) → is_possible cond s value ≡ false
  pub earlier : (r : SymId) → r.0 < s.0 → (value : ℕ) × (is_possible cond r value ≡ true)

-- the verdict on the condition: False with the first broken pick; where none is broken, Empty with the first symbol
-- that has no possible value and all its simple picks; where there is no such symbol, the least values
abbrev pub IsVerdictOn : Condition → SimpleVerdict → Type 0
IsVerdictOn cond (Values values) = (first_broken cond ≡ None) × AreLeastValues cond values.items
IsVerdictOn cond (False pick) = first_broken cond ≡ Some pick
IsVerdictOn cond (Empty s picks) = (first_broken cond ≡ None) × IsFirstWithoutValue cond s × (picks.items ≡ simple_picks s cond)

-- the verdict is that no values make the condition true
abbrev pub is_refuting : SimpleVerdict → Bool
is_refuting (Values values) = false
is_refuting (False pick) = true
is_refuting (Empty s picks) = true

-- no constant formula is broken, and the symbol is one of the condition that has no possible value
pub record IsWithoutValue (cond : Condition) (s : SymId) : Type 0 where
  pub unbroken : first_broken cond ≡ None
  pub known : s.0 < length cond.widths
  pub no_value : (value : ℕ) → is_possible cond s value ≡ false

abbrev pub is_false : SimpleVerdict → Bool
is_false (Values values) = false
is_false (False pick) = true
is_false (Empty s picks) = false

abbrev pub is_empty_verdict : SimpleVerdict → Bool
is_empty_verdict (Values values) = false
is_empty_verdict (False pick) = false
is_empty_verdict (Empty s picks) = true

-- the kind is constant, or simple on one of the first N symbols
abbrev pub is_settled : ℕ → Kind → Bool
is_settled count (Constant truth) = true
is_settled count (Simple s) = nat_lt s.0 count
is_settled count Inside = false
is_settled count Outside = false

-- where the formula is constant, or simple on a symbol of the condition, it has the truth that it must have at these values
abbrev pub holds_if_settled : Condition → List ℕ → Entry → Bool
holds_if_settled cond values entry =
    if is_settled (length cond.widths) (kind_of (view entry.0)) then entry_holds values entry else true
