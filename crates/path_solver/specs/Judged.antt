-- What holds of verdicts on conditions over any formulas that are seen as trees.
use Rattle.std.specs.Prelude.{◌≡◌, ◌⊎◌, ℕ, true, List}
use Rattle.path_formula.specs.Formulas.{FormulaTree}
use Rattle.path_cond.specs.Seen.{ConditionOf, holds_at}
use Rattle.refutation_check.specs.Seen.{AreFitting, IsRefuted, IsUndecidedBy, IsMetBy, IsLicensed}
use Rattle.refutation_check.specs.declared.outcome.Cause.{Cause}

-- each condition is exactly one of refuted, undecided and met; what meets it makes it true; its cause may be given
pub record AreExact {X : Type 0} (tree : X → FormulaTree) : Type 0 where
  pub one_of_three : (cond : ConditionOf X) → IsRefuted tree cond
      ⊎ (((cause : Cause) × IsUndecidedBy tree cond cause) ⊎ ((values : List ℕ) × IsMetBy tree cond values))
  pub not_undecided : (cond : ConditionOf X) (cause : Cause) → IsRefuted tree cond → IsUndecidedBy tree cond cause → ⊥
  pub not_met : (cond : ConditionOf X) (values : List ℕ) → IsRefuted tree cond → IsMetBy tree cond values → ⊥
  pub not_both : (cond : ConditionOf X) (cause : Cause) (values : List ℕ) → IsUndecidedBy tree cond cause → IsMetBy tree cond values → ⊥
  pub met_is_true : (cond : ConditionOf X) (values : List ℕ) → IsMetBy tree cond values
      → AreFitting cond.widths values × (holds_at tree cond values ≡ true)
  pub licensed : (cond : ConditionOf X) (cause : Cause) → IsUndecidedBy tree cond cause → IsLicensed tree cond cause
