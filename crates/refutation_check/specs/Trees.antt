-- What is said of a condition is said of the trees of its formulas.
use Rattle.std.specs.Prelude.{◌≡◌, ◌↔◌, ℕ, false, List}
use Rattle.sn_width.specs.declared.ids.SymId.{SymId}
use Rattle.path_formula.specs.Formulas.{FormulaTree}
use Rattle.path_cond.specs.Seen.{ConditionOf, itself, seen, holds_at, first_broken, AllTyped}
use Rattle.path_formula.specs.Bounds.{Case}
use Rattle.path_cond.specs.Choices.{coupled_symbols, choice_count, domain_cases, first_without_cases}
use Rattle.refutation_check.specs.Seen.{AreCandidates, AreLeast, HasNoCandidates, first_broken_outside, is_possible, HasEmptyDomain, IsRefuted, IsUndecidedBy, IsMetBy, IsLicensed, Leaves, Refutes, IsAccepted}
use Rattle.refutation_check.specs.declared.outcome.Cause.{Cause}
use Rattle.refutation_check.specs.declared.steps.Refute.{Refute}

-- each judgment of the condition is that of its trees
pub record IsJudgedByTrees {X : Type 0} (tree : X → FormulaTree) (cond : ConditionOf X) : Type 0 where
  pub holds : (values : List ℕ) → holds_at itself (seen tree cond) values ≡ holds_at tree cond values
  pub typed : AllTyped tree cond.widths cond.entries ↔ AllTyped itself cond.widths (seen tree cond).entries
  pub broken : first_broken itself (seen tree cond) ≡ first_broken tree cond
  pub possible : (s : SymId) (value : ℕ) → is_possible itself (seen tree cond) s value ≡ is_possible tree cond s value
  pub empty : HasEmptyDomain tree cond ↔ HasEmptyDomain itself (seen tree cond)
  pub candidates : (values : List ℕ) → AreCandidates tree cond values ↔ AreCandidates itself (seen tree cond) values
  pub least : (values : List ℕ) → AreLeast tree cond values ↔ AreLeast itself (seen tree cond) values
  pub none : HasNoCandidates tree cond ↔ HasNoCandidates itself (seen tree cond)
  pub outside : (values : List ℕ) → first_broken_outside itself (seen tree cond) values ≡ first_broken_outside tree cond values
  pub coupled : coupled_symbols itself (seen tree cond) ≡ coupled_symbols tree cond
  pub choices : choice_count itself (seen tree cond) ≡ choice_count tree cond
  pub caseless : first_without_cases itself (seen tree cond) ≡ first_without_cases tree cond
  pub cases : (s : SymId) → domain_cases itself (seen tree cond) s ≡ domain_cases tree cond s
  pub leaves : (gathered : Case) (step : Refute) (cases : List Case) → Leaves tree cond gathered step cases ↔ Leaves itself (seen tree cond) gathered step cases
  pub refutes : (alternatives : List Case) (steps : List Refute) → Refutes tree cond alternatives steps ↔ Refutes itself (seen tree cond) alternatives steps
  pub refuted : IsRefuted tree cond ↔ IsRefuted itself (seen tree cond)
  pub met : (values : List ℕ) → IsMetBy tree cond values ↔ IsMetBy itself (seen tree cond) values
  pub undecided : (cause : Cause) → IsUndecidedBy tree cond cause ↔ IsUndecidedBy itself (seen tree cond) cause
  pub licensed : (cause : Cause) → IsLicensed tree cond cause ↔ IsLicensed itself (seen tree cond) cause
  pub accepted : (steps : List Refute) → IsAccepted tree cond steps ↔ IsAccepted itself (seen tree cond) steps

-- where a refutation is accepted, no values make the condition true
abbrev pub AcceptedRefute : {X : Type 0} → (X → FormulaTree) → Type 0
AcceptedRefute {X} tree = (cond : ConditionOf X) (steps : List Refute) (values : List ℕ)
    → AllTyped tree cond.widths cond.entries → IsAccepted tree cond steps → holds_at tree cond values ≡ false
