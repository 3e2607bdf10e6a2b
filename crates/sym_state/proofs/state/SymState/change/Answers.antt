use Rattle.std.proofs.Common.{ℕ, subst}
use Rattle.lin_term.specs.Terms.{LinearTerm, value_at}
use Rattle.path_formula.specs.Formulas.{truth_at}
use Rattle.cell_stacks.specs.Outcome.{Meets}
use Rattle.instr_steps.specs.Scenes.{scene_of}
use Rattle.sefl_meaning.specs.Carried.{carried_valued}
use Rattle.sefl_meaning.specs.Valued.{CarriedFits, Fits}
use Rattle.sefl_meaning.specs.Values.{numbers}
use Rattle.sefl_meaning.specs.View.{carried_of}
use Rattle.term_values.specs.Fits.{term_fits, typed_fits}
use Rattle.term_values.specs.TermValues.{terms}
use Rattle.instr_steps.specs.Stepping.{stepped}
use Rattle.sym_state.specs.Symbolic.{Symbolic, numbers_in}
use Rattle.sym_state.proofs.Keeping.{left_by, meets_valued}
use Rattle.sym_state.proofs.Typing.{FitLaws, closer}
use Rattle.sym_state.proofs.Changing.{stepped_keeps, stepped_commutes}
use Rattle.sym_state.proofs.state.SymState.change.Goals as goal

pub invariant_of-self : goal.invariant_of-self
invariant_of-self c =
    let widths = c.self.inside.trace.condition.widths in
    let o = terms c.self.inside.unknowns in
    let at = scene_of c.args.at.now in
    let s = carried_of c.self.inside.carried in
    let fits = typed_fits widths in
    let held = c.self.invariant.fits in
    let laws = c.steps_keep.ensures in
    record {
      fits = left_by (CarriedFits fits) (stepped o at c.args.step s) c.take.result s (carried_of c.take.new.state) c.take.ensures
          (stepped_keeps (Fits fits) (CarriedFits fits) o at s (λ target. laws.allocated fits at target s held) (λ target. laws.deallocated fits at target s held)
          (λ w e. c.expressions_keep.ensures.values fits o (c.terms_keep_types.ensures.sums widths c.self.inside.unknowns) at w e s held)
          (λ target value h. laws.assigned fits at target value s held h)
          (λ name addr. laws.created fits at name addr s held) (λ name addr. laws.set fits at name addr s held) (λ name. laws.destroyed fits at name s held)
          c.args.step)
          held;
      known = c.self.invariant.known;
    }

pub returns-clause-commutes : goal.returns-clause-commutes
returns-clause-commutes c = λ v.
    let widths = c.self.inside.trace.condition.widths in
    let unknowns = c.self.inside.unknowns in
    let o = terms unknowns in
    let p = numbers v unknowns in
    let at = scene_of c.args.at.now in
    let s = carried_of c.self.inside.carried in
    let f : LinearTerm → ℕ = λ t. value_at t v in
    let tests : FitLaws = record { fits = c.the_tests_of_fitting_terms.ensures.fits; typed = c.the_tests_of_fitting_terms.ensures.typed } in
    let held : CarriedFits term_fits s = c.steps_keep.ensures.weaker (typed_fits widths) term_fits s (closer tests widths) c.self.invariant.fits in
    let laws = c.steps_commute.ensures in
    subst (λ (old : Symbolic). Meets (stepped (numbers v old.unknowns) at c.args.step (numbers_in v old)) c.take.result (numbers_in v old)
    (carried_valued f (carried_of c.take.new.state))) c.self.view_is
    (meets_valued (carried_valued f) (stepped o at c.args.step s) (stepped p at c.args.step (carried_valued f s)) c.take.result s (carried_of c.take.new.state)
    (stepped_commutes f o p at s (λ target. laws.allocated term_fits f at target s held) (λ target. laws.deallocated term_fits f at target s held)
    (λ target e. c.valuing_commutes.ensures.evaluated term_fits o p f (λ t. truth_at t v) (c.values_respect_the_operations.ensures v unknowns) at target e s held)
    (λ name addr. laws.created term_fits f at name addr s held) (λ name addr. laws.set term_fits f at name addr s held) (λ name. laws.destroyed term_fits f at name s held)
    c.args.step)
    c.take.ensures)
