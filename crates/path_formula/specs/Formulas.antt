-- Formulas as trees, and their truth.
use Rattle.std.specs.Prelude.{ℕ, Bool, true, false, not, ◌&&◌, ◌||◌, List}
use Rattle.sn_width.specs.Rel.{relates}
use Rattle.sn_width.specs.declared.rel.Rel.{Rel}
use Rattle.lin_term.specs.Terms.{LinearTerm, value_at}
use Rattle.sn_ranges.specs.Ranges.{RangeSet, is_member}

mutual
  -- what a formula is
  pub data FormulaTree : Type 0 where
    always : Bool → FormulaTree
    compared : Rel → LinearTerm → LinearTerm → FormulaTree
    belongs : LinearTerm → RangeSet → FormulaTree
    all_of : Formulas → FormulaTree
    any_of : Formulas → FormulaTree
    opposite : FormulaTree → FormulaTree

  -- a list of formulas
  pub data Formulas : Type 0 where
    no_formulas : Formulas
    formula : FormulaTree → Formulas → Formulas

abbrev mutual
  -- the truth where each symbol is the number at its place in a list, and 0 past its end
  pub truth_at : FormulaTree → List ℕ → Bool
  truth_at (always truth) values = truth
  truth_at (compared rel left right) values = relates rel (value_at left values) (value_at right values)
  truth_at (belongs term set) values = is_member set.pairs (value_at term values)
  truth_at (all_of fs) values = all_true fs values
  truth_at (any_of fs) values = any_true fs values
  truth_at (opposite f) values = not (truth_at f values)

  -- each of the formulas is true
  pub all_true : Formulas → List ℕ → Bool
  all_true no_formulas values = true
  all_true (formula f fs) values = truth_at f values && all_true fs values

  -- one of the formulas is true
  pub any_true : Formulas → List ℕ → Bool
  any_true no_formulas values = false
  any_true (formula f fs) values = truth_at f values || any_true fs values
