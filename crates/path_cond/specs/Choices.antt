-- What couples symbols and how many choices there are, in conditions over any formulas that are seen as trees.
use Rattle.std.specs.Prelude.{ℕ, ◌*◌, Bool, false, List, Option, Some, None, map, length, slice_get, slice_index}
use Rattle.std.specs.List.{list_all}
use Rattle.sn_width.specs.declared.ids.SymId.{SymId}
use Rattle.sn_ranges.specs.Ranges.{Range}
use Rattle.path_formula.specs.Formulas.{FormulaTree}
use Rattle.path_formula.specs.Solutions.{alone}
use Rattle.path_cond.specs.Seen.{ConditionOf, entry_holds, in_domain, is_entry_on}
use Rattle.path_formula.specs.Bounds.{Case}
use Rattle.path_formula.specs.Cases.{single_cases}
use Rattle.path_formula.specs.CaseCounts.{capped}
use Rattle.sn_ranges.specs.Sets.{ranges_where}
pub use Rattle.path_cond.specs.Kept.{product, is_inside, entry_case_count, formula_choices, has_no_cases, first_without_cases, couples, is_coupled, coupled_symbols, coupled_count}

-- there is a formula, and it passes the test
abbrev pub passes : {E : Type 0} → (E → Bool) → Option E → Bool
passes test None = false
passes test (Some entry) = test entry

module _ {X : Type 0} (tree : X → FormulaTree) where
  -- the ranges of the values of the symbol's width that meet each formula that is simple on the symbol
  abbrev pub domain_ranges : ConditionOf X → SymId → List Range
  domain_ranges cond s = ranges_where (slice_index cond.widths s.0) (in_domain tree s cond)

  -- a case for each of these ranges
  abbrev pub domain_cases : ConditionOf X → SymId → List Case
  domain_cases cond s = single_cases s (slice_index cond.widths s.0) (in_domain tree s cond)

  -- the number of these ranges
  abbrev pub range_count : ConditionOf X → SymId → ℕ
  range_count cond s = length (domain_ranges cond s)

  -- the number of choices of a range of the domain of each coupled symbol
  abbrev pub range_choices : ConditionOf X → ℕ
  range_choices cond = product (map (range_count cond) (coupled_symbols tree cond))

  -- the number of choices of a case of each inside formula and of a range of the domain of each coupled symbol, and
  -- 2^64 - 1 where there are more
  abbrev pub choice_count : ConditionOf X → ℕ
  choice_count cond = capped (formula_choices tree cond * range_choices cond)

  -- the condition has a formula of the pick, and it is simple on the symbol
  abbrev pub is_simple_pick : SymId → ConditionOf X → ℕ → Bool
  is_simple_pick s cond pick = passes (is_entry_on tree s) (slice_get cond.entries pick)

  -- the condition has a formula of the pick, and it has the truth that it must have at these values
  abbrev pub pick_holds : ConditionOf X → List ℕ → ℕ → Bool
  pick_holds cond values pick = passes (entry_holds tree values) (slice_get cond.entries pick)

  -- each of the picks is of a formula that is simple on the symbol
  abbrev pub are_simple_picks : SymId → ConditionOf X → List ℕ → Bool
  are_simple_picks s cond picks = list_all (is_simple_pick s cond) picks

  -- the number, as the value of the symbol, meets the formulas of the picks
  abbrev pub meets_picks : SymId → ConditionOf X → List ℕ → ℕ → Bool
  meets_picks s cond picks value = list_all (pick_holds cond (alone s value)) picks
