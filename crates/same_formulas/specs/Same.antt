-- Formulas that are the same, part by part.
use Rattle.std.specs.Prelude.{◌≡◌, Bool}
use Rattle.sn_width.specs.declared.rel.Rel.{Rel}
use Rattle.lin_term.specs.Terms.{LinearTerm}
use Rattle.sn_ranges.specs.Ranges.{RangeSet}
use Rattle.path_formula.specs.Formulas.{FormulaTree, always, compared, belongs, all_of, any_of, opposite, Formulas, no_formulas, formula}

abbrev pub IsTruth : Bool → FormulaTree → Type 0
IsTruth truth (always other) = truth ≡ other
IsTruth truth (compared rel left right) = ⊥
IsTruth truth (belongs term set) = ⊥
IsTruth truth (all_of fs) = ⊥
IsTruth truth (any_of fs) = ⊥
IsTruth truth (opposite f) = ⊥

abbrev pub IsComparison : Rel → LinearTerm → LinearTerm → FormulaTree → Type 0
IsComparison rel left right (always truth) = ⊥
IsComparison rel left right (compared relation first second) = (rel ≡ relation) × (left ≡ first) × (right ≡ second)
IsComparison rel left right (belongs term set) = ⊥
IsComparison rel left right (all_of fs) = ⊥
IsComparison rel left right (any_of fs) = ⊥
IsComparison rel left right (opposite f) = ⊥

abbrev pub IsMembership : LinearTerm → RangeSet → FormulaTree → Type 0
IsMembership value ranges (always truth) = ⊥
IsMembership value ranges (compared rel left right) = ⊥
IsMembership value ranges (belongs term set) = (value ≡ term) × (ranges ≡ set)
IsMembership value ranges (all_of fs) = ⊥
IsMembership value ranges (any_of fs) = ⊥
IsMembership value ranges (opposite f) = ⊥

abbrev mutual
  -- the same connectives, terms and sets, in the same order
  pub AreSame : FormulaTree → FormulaTree → Type 0
  AreSame (always truth) g = IsTruth truth g
  AreSame (compared rel left right) g = IsComparison rel left right g
  AreSame (belongs term set) g = IsMembership term set g
  AreSame (all_of fs) (always truth) = ⊥
  AreSame (all_of fs) (compared rel left right) = ⊥
  AreSame (all_of fs) (belongs term set) = ⊥
  AreSame (all_of fs) (all_of gs) = AllSame fs gs
  AreSame (all_of fs) (any_of gs) = ⊥
  AreSame (all_of fs) (opposite g) = ⊥
  AreSame (any_of fs) (always truth) = ⊥
  AreSame (any_of fs) (compared rel left right) = ⊥
  AreSame (any_of fs) (belongs term set) = ⊥
  AreSame (any_of fs) (all_of gs) = ⊥
  AreSame (any_of fs) (any_of gs) = AllSame fs gs
  AreSame (any_of fs) (opposite g) = ⊥
  AreSame (opposite f) (always truth) = ⊥
  AreSame (opposite f) (compared rel left right) = ⊥
  AreSame (opposite f) (belongs term set) = ⊥
  AreSame (opposite f) (all_of gs) = ⊥
  AreSame (opposite f) (any_of gs) = ⊥
  AreSame (opposite f) (opposite g) = AreSame f g

  -- as many, each the same as the one at its place
  pub AllSame : Formulas → Formulas → Type 0
  AllSame no_formulas no_formulas = Unit {0}
  AllSame no_formulas (formula g gs) = ⊥
  AllSame (formula f fs) no_formulas = ⊥
  AllSame (formula f fs) (formula g gs) = AreSame f g × AllSame fs gs
