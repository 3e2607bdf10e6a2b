use Rattle.std.proofs.Common.{◌≡◌, ◌∙◌, List, Some, subst, sym}
use Rattle.path_cond.specs.Counts.{first_without_cases}
use Rattle.refutation_check.specs.Accepted.{IsAccepted}
use Rattle.refutation_check.specs.declared.steps.Refute.{Refute}
use Rattle.path_solver.proofs.Caseless.{split_refutes}
use Rattle.path_solver.proofs.decision.decide_within.Goals as goal

pub returns-in-Some : goal.returns-in-Some
returns-in-Some c =
    let cond = c.args.cond.now in
    let first : first_without_cases cond ≡ Some c.in-Some.pick = sym c.first_without_cases.ensures ∙ c.in-Some.is in
    let both = split_refutes c.facts.ensures c.each_formula_is_typed.ensures cond c.in-Some.pick c.formulas_are_typed.ensures first c.requires.within.coupled in
    (both.0, subst (λ (r : List Refute). IsAccepted cond r) (sym c.in_ok-refutation.ensures) both.1)
