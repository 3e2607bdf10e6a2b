use Rattle.std.proofs.Common.{◌≡◌, ℕ, List, [], ◌∷◌, map, length, sym, ap, subst, ◌∙◌}
use Rattle.sn_width.specs.declared.ids.SymId.{SymId}
use Rattle.difference_solver.specs.declared.bound.Bound.{Bound}
use Rattle.difference_solver.specs.Choices.{lists_of, AreBelow, AreInRange, IsLeast, IsUnmet}
use Rattle.difference_solver.specs.Outcomes.{IfLeast, IfRefuted, IsRefuted}
use Rattle.difference_solver.specs.Steps as Search
use Rattle.difference_solver.specs.declared.choice.Outcome.{Outcome}
use Rattle.path_cond.specs.Conditions.{Condition}
use Rattle.path_cond.specs.Coupled.{coupled_symbols}
use Rattle.refutation_check.specs.Accepted.{IsAccepted}
use Rattle.refutation_check.specs.declared.steps.Refute.{Refute}
use Rattle.path_solver.specs.Origins.{AreOrigins, choices_from, refute_from}
use Rattle.path_solver.specs.Problems.{IsProblem}
use Rattle.path_solver.specs.declared.problem.Problem.{Problem}
use Rattle.path_solver.proofs.Bridge.{behind_are}
use Rattle.path_solver.proofs.Refuting.{accepted}
use Rattle.path_solver.proofs.Solved.{are_below, choices_in_range, unmet_none}
use Rattle.path_solver.proofs.solve.find_among.Goals as goal

-- the choices as the search sees them
seen : (cond : Condition) (steps : List Refute) (choices : List (List (List Bound))) (symbols : List SymId)
    (P : ℕ → List (List (List Bound)) → Type 0) → symbols ≡ coupled_symbols cond → choices ≡ choices_from cond steps
    → P (length (coupled_symbols cond)) (choices_from cond steps) → P (length symbols) choices
seen cond steps choices symbols P same are h =
    subst (λ (ss : List SymId). P (length ss) choices) (sym same) (subst (λ cs. P (length (coupled_symbols cond)) cs) (sym are) h)

unseen : (cond : Condition) (steps : List Refute) (choices : List (List (List Bound))) (symbols : List SymId)
    (P : ℕ → List (List (List Bound)) → Type 0) → symbols ≡ coupled_symbols cond → choices ≡ choices_from cond steps
    → P (length symbols) choices → P (length (coupled_symbols cond)) (choices_from cond steps)
unseen cond steps choices symbols P same are h =
    subst (λ (ss : List SymId). P (length ss) (choices_from cond steps)) same (subst (λ cs. P (length symbols) cs) are h)

origins_of_problem : (cond : Condition) (p : Problem) → IsProblem cond p → AreOrigins cond p.steps.items
origins_of_problem cond p (members, h) = subst (AreOrigins cond) (sym h.steps_are) (behind_are cond members h.are)

below_problem : (cond : Condition) (p : Problem) → IsProblem cond p → AreBelow (length (coupled_symbols cond)) (choices_from cond p.steps.items)
below_problem cond p (members, h) =
    subst (λ (os : List Refute). AreBelow (length (coupled_symbols cond)) (choices_from cond os)) (sym h.steps_are) (are_below cond members)

pub find_least-requires-clause-in_range : goal.find_least-requires-clause-in_range
find_least-requires-clause-in_range c =
    let cond = c.args.cond.now in
    let p = c.args.problem.now in
    seen cond p.steps.items (lists_of c.as_slice.result.now) c.args.symbols.now AreInRange c.requires.symbols
    (ap lists_of c.as_slice.ensures.value ∙ c.requires.problem.1.choices_are)
    (choices_in_range c.facts.ensures cond p.steps.items c.formulas_are_typed.ensures (origins_of_problem cond p c.requires.problem))

pub find_least-requires-clause-below : goal.find_least-requires-clause-below
find_least-requires-clause-below c =
    let cond = c.args.cond.now in
    let p = c.args.problem.now in
    seen cond p.steps.items (lists_of c.as_slice.result.now) c.args.symbols.now AreBelow c.requires.symbols
    (ap lists_of c.as_slice.ensures.value ∙ c.requires.problem.1.choices_are) (below_problem cond p c.requires.problem)

pub returns-in-Ok-Least : goal.returns-in-Ok-Least
returns-in-Ok-Least c =
    unseen c.args.cond.now c.args.problem.now.steps.items (lists_of c.as_slice.result.now) c.args.symbols.now
    (λ n cs. IsLeast n cs c.in-Ok-Least.values.items) c.requires.symbols
    (ap lists_of c.as_slice.ensures.value ∙ c.requires.problem.1.choices_are)
    (subst (λ (o : Outcome). IfLeast o (IsLeast (length c.args.symbols.now) (lists_of c.as_slice.result.now)))
    c.in-Ok-Least.field-0-is c.in-Ok-Least.ensures.least)

pub returns-in_ok-refutation-in-Ok-Refuted : goal.returns-in_ok-refutation-in-Ok-Refuted
returns-in_ok-refutation-in-Ok-Refuted c =
    let cond = c.args.cond.now in
    let p = c.args.problem.now in
    let origins = p.steps.items in
    let are = ap lists_of c.as_slice.ensures.value ∙ c.requires.problem.1.choices_are in
    let unmet =
    unseen cond origins (lists_of c.as_slice.result.now) c.args.symbols.now (λ n cs. IsUnmet n cs)
    c.requires.symbols are (c.in-Ok-Refuted.ensures.unmet.0
    (subst (λ (o : Outcome). IsRefuted o) (sym c.in-Ok-Refuted.field-0-is) tt)) in
    let refuted =
    subst (λ cs. Search.Refutes cs ([] ∷ []) c.in-Ok-Refuted.steps.items) are
    (subst (λ (o : Outcome). IfRefuted o (Search.Refutes (lists_of c.as_slice.result.now) ([] ∷ [])))
    c.in-Ok-Refuted.field-0-is c.in-Ok-Refuted.ensures.refuted) in
    let steps : c.in_ok-refutation-in-Ok-Refuted.refutation ≡ map (refute_from origins) c.in-Ok-Refuted.steps.items =
    c.in_ok-refutation-in-Ok-Refuted.ensures
    ∙ ap (λ (os : List Refute). map (refute_from os) c.in-Ok-Refuted.steps.items) c.as_slice-in-Ok-Refuted.ensures.value in
    let is = origins_of_problem cond p c.requires.problem in (
      unmet_none c.facts.ensures cond origins c.formulas_are_typed.ensures is unmet,
      subst (λ (r : List Refute). IsAccepted cond r) (sym steps)
          (accepted c.facts.ensures cond origins is c.in-Ok-Refuted.steps.items c.formulas_are_typed.ensures refuted),
    )
