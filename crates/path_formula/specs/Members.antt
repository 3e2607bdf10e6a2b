-- The members of a formula: formulas inside it that all have their truth where it has the truth that it must have.
use Rattle.std.specs.Prelude.{ℕ, zero, suc, Bool, true, false, not, List, [], ◌∷◌, Option, Some, None, if◌then◌else◌}
use Rattle.path_formula.specs.Formulas.{FormulaTree, always, compared, belongs, all_of, any_of, opposite, Formulas, no_formulas, formula}

-- a formula, and the truth that it must have
abbrev pub Member : Type 0
Member = FormulaTree × Bool

abbrev mutual
  -- the member to which the way leads: the formula itself by the empty way; into a conjunction by the number of one of its
  -- parts, from 0, and what is left of the way. A conjunction is an `and` that must be true, or an `or` that must be false
  pub member_of : FormulaTree → Bool → List ℕ → Option Member
  member_of f holds [] = Some (f, holds)
  member_of (always truth) holds (number ∷ way) = None
  member_of (compared rel left right) holds (number ∷ way) = None
  member_of (belongs term set) holds (number ∷ way) = None
  member_of (all_of fs) holds (number ∷ way) = if holds then member_among fs true number way else None
  member_of (any_of fs) holds (number ∷ way) = if holds then None else member_among fs false number way
  member_of (opposite f) holds (number ∷ way) = member_of f (not holds) (number ∷ way)

  -- the member to which the way leads in the formula of this number
  pub member_among : Formulas → Bool → ℕ → List ℕ → Option Member
  member_among no_formulas holds number way = None
  member_among (formula f fs) holds zero way = member_of f holds way
  member_among (formula f fs) holds (suc number) way = member_among fs holds number way
