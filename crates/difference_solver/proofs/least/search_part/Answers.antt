use Rattle.std.proofs.Common.{◌≡◌, ◌<◌, List, ℕ, length, arith, ap, refl, sym, subst, ◌∙◌}
use Rattle.difference_solver.specs.Parts.{has_label}
use Rattle.difference_solver.specs.Renaming.{names_of}
use Rattle.difference_solver.proofs.Naming.{are_names, few_names}
use Rattle.difference_solver.proofs.least.search_part.Goals as goal

pub search_named-requires-clause-some : goal.search_named-requires-clause-some
search_named-requires-clause-some c =
    let test = has_label c.args.labels.now c.args.label in
    let is : c.as_slice.result.now ≡ names_of test c.args.count = c.as_slice.ensures.value ∙ c.in_ok-names.ensures in
    subst (λ (names : List ℕ). 0 < length names) (sym is) (are_names c.args.count test refl).some

pub search_named-requires-clause-few : goal.search_named-requires-clause-few
search_named-requires-clause-few c =
    let test = has_label c.args.labels.now c.args.label in
    let is : c.as_slice.result.now ≡ names_of test c.args.count = c.as_slice.ensures.value ∙ c.in_ok-names.ensures in
    omega (arith, ap length is, few_names c.args.count test, c.requires.unknowns)
