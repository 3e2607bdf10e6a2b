use Rattle.std.proofs.Common.{◌≡◌, ℕ, ℤ, suc, List, [], ◌∷◌, length, map, arith, refl, ap, sym, subst, ◌∙◌}
use Rattle.std.proofs.lemmas.List.{length-map}
use Rattle.difference_solver.specs.Choices.{Case, lists_of, cases_of, AreInRange, AreBelow, IsLeast, IsUnmet}
use Rattle.difference_solver.specs.Outcomes.{IfLeast, IfRefuted, IsRefuted}
use Rattle.difference_solver.specs.Parts.{has_label, part_of, places_of, placed}
use Rattle.difference_solver.specs.Renaming.{renamed_cases, renamed_choices, spread}
use Rattle.difference_solver.specs.Steps.{Refutes}
use Rattle.difference_solver.specs.declared.choice.Step.{Step}
use Rattle.difference_solver.specs.declared.choice.Outcome.{Outcome}
use Rattle.difference_solver.proofs.Naming.{AreNames, are_names}
use Rattle.difference_solver.proofs.Passing.{part_fewer}
use Rattle.difference_solver.proofs.Placing.{refutes_placed}
use Rattle.difference_solver.proofs.Renamed.{of_part, renamed_in_range, renamed_below, renamed_refutes, renamed_unmet, spread_least}
use Rattle.difference_solver.proofs.least.search_named.Goals as goal

pub search-requires-clause-few : goal.search-requires-clause-few
search-requires-clause-few c =
    let test = has_label c.args.labels.now c.args.label in
    let part = part_of test (lists_of c.args.choices.now) in
    omega (
      arith,
      ap length (ap lists_of c.as_slice.ensures.value ∙ c.in_ok-part.ensures.choices),
      length-map part (renamed_cases c.args.names.now),
      part_fewer test (lists_of c.args.choices.now),
      length-map c.as_slice.result.now cases_of,
      length-map c.args.choices.now cases_of,
      c.requires.choices,
    )

pub search-requires-clause-in_range : goal.search-requires-clause-in_range
search-requires-clause-in_range c =
    let count = c.args.count in
    let test = has_label c.args.labels.now c.args.label in
    let lists = lists_of c.args.choices.now in
    let are : AreNames count test c.args.names.now = subst (AreNames count test) (sym c.requires.names) (are_names count test refl) in
    let many : suc c.last_of-last.result ≡ length c.args.names.now = omega (arith, c.last_of-last.ensures) in
    subst (λ (cs : List (List Case)). AreInRange c.last_of-last.result cs) (sym (ap lists_of c.as_slice.ensures.value ∙ c.in_ok-part.ensures.choices))
    (renamed_in_range count c.last_of-last.result test c.args.names.now (part_of test lists) are many (of_part count test lists c.requires.in_range))

pub returns-in-Least-clause-least : goal.returns-in-Least-clause-least
returns-in-Least-clause-least c =
    let count = c.args.count in
    let last = c.last_of-last.result in
    let names = c.args.names.now in
    let values = c.in-Least.values.items in
    let test = has_label c.args.labels.now c.args.label in
    let lists = lists_of c.args.choices.now in
    let chosen = lists_of c.as_slice.result.now in
    let are : AreNames count test names = subst (AreNames count test) (sym c.requires.names) (are_names count test refl) in
    let many : suc last ≡ length names = omega (arith, c.last_of-last.ensures) in
    let is : chosen ≡ renamed_choices names (part_of test lists) = ap lists_of c.as_slice.ensures.value ∙ c.in_ok-part.ensures.choices in
    let below : AreBelow last chosen =
    subst (λ (cs : List (List Case)). AreBelow last cs) (sym is)
    (renamed_below count last c.requires.apart.0 c.args.labels.now c.args.label names lists are many c.requires.apart.1.each c.requires.below) in
    let least : IsLeast last chosen values =
    subst (λ (found : Outcome). AreBelow last chosen → IfLeast found (IsLeast last chosen)) c.in-Least.is c.in_ok-found.ensures.least below in
    let spreads : c.in_ok-integers-in-Least.integers.items ≡ spread test names values 0 (suc count) =
    c.in_ok-integers-in-Least.ensures ∙ ap (λ (v : List ℤ). spread test names v 0 (suc count)) c.as_slice-in-Least.ensures.value in
    spread_least count last test names lists values c.in_ok-integers-in-Least.integers.items refl are many c.requires.in_range spreads
    (subst (λ (cs : List (List Case)). IsLeast last cs values) is least)

pub returns-clause-refuted : goal.returns-clause-refuted
returns-clause-refuted c =
    let count = c.args.count in
    let names = c.args.names.now in
    let steps = c.in-Refuted.steps.items in
    let test = has_label c.args.labels.now c.args.label in
    let lists = lists_of c.args.choices.now in
    let chosen = lists_of c.as_slice.result.now in
    let are : AreNames count test names = subst (AreNames count test) (sym c.requires.names) (are_names count test refl) in
    let is : chosen ≡ renamed_choices names (part_of test lists) = ap lists_of c.as_slice.ensures.value ∙ c.in_ok-part.ensures.choices in
    let found : Refutes chosen ([] ∷ []) steps =
    subst (λ (found : Outcome). IfRefuted found (Refutes chosen ([] ∷ []))) c.in-Refuted.is c.in_ok-found.ensures.refuted in
    let places : c.as_slice-in-Refuted.result.now ≡ places_of test 0 lists = c.as_slice-in-Refuted.ensures.value ∙ c.in_ok-part.ensures.places in
    subst (λ (ss : List Step). Refutes lists ([] ∷ []) ss)
    (sym (c.in_ok-steps-in-Refuted.ensures ∙ ap (λ (ps : List ℕ). map (placed ps) steps) places))
    (refutes_placed test lists steps
    (renamed_refutes count test names (part_of test lists) steps are (of_part count test lists c.requires.in_range)
    (subst (λ (cs : List (List Case)). Refutes cs ([] ∷ []) steps) is found)))

pub returns-clause-unmet : goal.returns-clause-unmet
returns-clause-unmet c =
    let count = c.args.count in
    let last = c.last_of-last.result in
    let names = c.args.names.now in
    let test = has_label c.args.labels.now c.args.label in
    let lists = lists_of c.args.choices.now in
    let chosen = lists_of c.as_slice.result.now in
    let are : AreNames count test names = subst (AreNames count test) (sym c.requires.names) (are_names count test refl) in
    let many : suc last ≡ length names = omega (arith, c.last_of-last.ensures) in
    let is : chosen ≡ renamed_choices names (part_of test lists) = ap lists_of c.as_slice.ensures.value ∙ c.in_ok-part.ensures.choices in
    let none : IsUnmet last chosen = c.in_ok-found.ensures.unmet.0 (subst (λ (found : Outcome). IsRefuted found) (sym c.in-Refuted.is) tt) in
    λ refuted. renamed_unmet count last test names lists are many c.requires.in_range (subst (λ (cs : List (List Case)). IsUnmet last cs) is none)
