use Rattle.std.proofs.Common.{◌≡◌, ℕ, List, Ok, Result, IfOk, ap, ◌∙◌, subst}
use Rattle.cell_stacks.specs.Outcome.{on_ok}
use Rattle.sn_width.specs.declared.faults.LayoutFault.{LayoutFault}
use Rattle.sefl_syntax.specs.Views.{cond_tree}
use Rattle.lin_term.specs.Terms.{value_at}
use Rattle.path_formula.specs.Formulas.{FormulaTree, truth_at}
use Rattle.path_formula.specs.Typed.{IsTyped}
use Rattle.path_formula.specs.View.{view}
use Rattle.instr_steps.specs.Scenes.{scene_of}
use Rattle.sefl_meaning.specs.Terms.{truth_in}
use Rattle.sefl_meaning.specs.Valued.{CarriedFits}
use Rattle.sefl_meaning.specs.Values.{numbers}
use Rattle.term_values.specs.Fits.{term_fits, typed_fits}
use Rattle.term_values.specs.TermValues.{terms}
use Rattle.sym_state.specs.Symbolic.{numbers_in}
use Rattle.sym_state.proofs.Keeping.{from_given}
use Rattle.sym_state.proofs.Typing.{FitLaws, closer, truth_typed}
use Rattle.sym_state.proofs.state.SymState.formula.Goals as goal

pub returns-clause-truth : goal.returns-clause-truth
returns-clause-truth c =
    let now = c.args.self.now in
    let widths = now.condition.widths in
    let o = terms now.unknowns in
    let at = scene_of c.args.at.now in
    let test = cond_tree c.args.test.now in
    let tests : FitLaws = record { fits = c.the_tests_of_fitting_terms.ensures.fits; typed = c.the_tests_of_fitting_terms.ensures.typed } in
    let held : CarriedFits term_fits now.carried = c.steps_keep.ensures.weaker (typed_fits widths) term_fits now.carried (closer tests widths) c.terms_are_typed.ensures in
    from_given view (truth_in o at test now.carried) c.evaluated.result
    (λ f. (v : List ℕ) → truth_in (numbers v now.unknowns) at test (numbers_in v now) ≡ Ok (truth_at (view f) v))
    c.evaluated.ensures
    (λ f h v.
    c.valuing_commutes.ensures.truths term_fits o (numbers v now.unknowns) (λ t. value_at t v) (λ f. truth_at f v) (c.values_respect_the_operations.ensures v now.unknowns) at test now.carried held
    ∙ ap (on_ok (λ f. truth_at f v)) h)

pub returns-clause-typed : goal.returns-clause-typed
returns-clause-typed c =
    let now = c.args.self.now in
    let widths = now.condition.widths in
    let o = terms now.unknowns in
    let at = scene_of c.args.at.now in
    let test = cond_tree c.args.test.now in
    let tests : FitLaws = record { fits = c.the_tests_of_fitting_terms.ensures.fits; typed = c.the_tests_of_fitting_terms.ensures.typed } in
    from_given view (truth_in o at test now.carried) c.evaluated.result (λ f. IsTyped widths (view f)) c.evaluated.ensures
    (λ f h. subst (λ (r : Result FormulaTree LayoutFault). IfOk r (IsTyped widths)) h
    (truth_typed tests widths now.unknowns at now.carried
    (λ w e. c.expressions_keep.ensures.values (typed_fits widths) o (c.terms_keep_types.ensures.sums widths now.unknowns) at w e now.carried c.terms_are_typed.ensures)
    test))
