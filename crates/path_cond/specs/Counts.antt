-- The number of choices of cases of a condition.
use Rattle.std.specs.Prelude.{ℕ, List}
use Rattle.sn_width.specs.declared.ids.SymId.{SymId}
use Rattle.sn_ranges.specs.Ranges.{Range}
use Rattle.path_formula.specs.View.{view}
use Rattle.path_cond.specs.Conditions.{Condition}
use Rattle.path_formula.specs.Bounds.{Case}
use Rattle.path_cond.specs.Choices as any
pub use Rattle.path_cond.specs.Summaries.{product, entry_case_count, formula_choices, has_no_cases, first_without_cases}

-- the ranges of the values of the symbol's width that meet each formula that is simple on the symbol
abbrev pub domain_ranges : Condition → SymId → List Range
domain_ranges = any.domain_ranges view

-- a case for each of these ranges
abbrev pub domain_cases : Condition → SymId → List Case
domain_cases = any.domain_cases view

-- the number of these ranges
abbrev pub range_count : Condition → SymId → ℕ
range_count = any.range_count view

-- the number of choices of a range of the domain of each coupled symbol
abbrev pub range_choices : Condition → ℕ
range_choices = any.range_choices view

-- the number of choices of a case of each inside formula and of a range of the domain of each coupled symbol, and
-- 2^64 - 1 where there are more
abbrev pub choice_count : Condition → ℕ
choice_count = any.choice_count view
