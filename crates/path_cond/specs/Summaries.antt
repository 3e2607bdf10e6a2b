-- What is kept of the formulas of a condition beside their picks by symbol.
use Rattle.std.specs.Prelude.{◌≡◌, ℕ, Bool, List, Option, map, reverse}
use Rattle.std.specs.List.{list_any, position_from}
use Rattle.sn_width.specs.declared.ids.SymId.{SymId}
use Rattle.path_formula.specs.View.{view}
use Rattle.path_formula.specs.Bounds.{Case}
use Rattle.path_formula.specs.CaseCounts.{capped}
use Rattle.path_cond.specs.Conditions.{Condition, Entry}
use Rattle.path_cond.specs.Kept as any
use Rattle.path_cond.specs.Marks.{has_mark}
use Rattle.path_cond.specs.declared.singles.Single.{Single}
use Rattle.path_cond.specs.declared.summary.Summary.{Summary}
pub use Rattle.path_cond.specs.Kept.{is_inside_kind, is_outside_kind, product, picks_where, first_case, singles_at}

-- the formula is inside
abbrev pub is_inside : Entry → Bool
is_inside = any.is_inside view

-- the formula is outside
abbrev pub is_outside : Entry → Bool
is_outside = any.is_outside view

-- the picks of the inside formulas
abbrev pub inside_picks : Condition → List ℕ
inside_picks = any.inside_picks view

-- the picks of the outside formulas
abbrev pub outside_picks : Condition → List ℕ
outside_picks = any.outside_picks view

-- the number of cases of an inside formula, with the truth that it must have; 1 for any other
abbrev pub entry_case_count : Entry → ℕ
entry_case_count = any.entry_case_count view

-- the number of choices of a case of each inside formula
abbrev pub formula_choices : Condition → ℕ
formula_choices = any.formula_choices view

-- the formula is inside and has one case alone
abbrev pub has_one_case : Entry → Bool
has_one_case = any.has_one_case view

-- the bounds of the only case of an inside formula; none of any other formula
abbrev pub single_case : Entry → Case
single_case = any.single_case view

-- the bounds of formulas that have one case alone, where the first formula has this pick
abbrev pub singles_from : ℕ → List Entry → List Single
singles_from = any.singles_from view

-- the bounds of the inside formulas of a condition that have one case alone
abbrev pub singles : Condition → List Single
singles = any.singles view

-- the formula is inside and has no cases
abbrev pub has_no_cases : Entry → Bool
has_no_cases = any.has_no_cases view

-- the least pick of a formula without cases
abbrev pub first_without_cases : Condition → Option ℕ
first_without_cases = any.first_without_cases view

-- the formula is inside, and the symbol occurs in it
abbrev pub couples : SymId → Entry → Bool
couples = any.couples view

-- the symbol occurs in an inside formula of the condition
abbrev pub is_coupled : Condition → SymId → Bool
is_coupled = any.is_coupled view

-- the symbols of the condition that occur in its inside formulas, ascending
abbrev pub coupled_symbols : Condition → List SymId
coupled_symbols = any.coupled_symbols view

-- their number
abbrev pub coupled_count : Condition → ℕ
coupled_count = any.coupled_count view

-- what is kept is that of the formulas
pub record IsKnown (entries : List Entry) (k : Summary) : Type 0 where
  pub inside_are : k.inside ≡ reverse (picks_where is_inside 0 entries)
  pub outside_are : k.outside ≡ reverse (picks_where is_outside 0 entries)
  pub choices_are : k.choices ≡ capped (product (map entry_case_count entries))
  pub singles_are : k.singles ≡ singles_from 0 entries
  pub caseless_is : k.caseless ≡ position_from has_no_cases 0 entries
  pub marks_are : (s : SymId) → has_mark k.marks s ≡ list_any (couples s) entries
