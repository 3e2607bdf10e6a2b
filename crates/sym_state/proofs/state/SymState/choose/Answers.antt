use Rattle.std.proofs.Common.{ℕ, length, refl, sym, subst}
use Rattle.job_items.specs.AtomRules.{width_of}
use Rattle.lin_term.specs.Terms.{LinearTerm, value_at}
use Rattle.instr_steps.specs.Scenes.{scene_of}
use Rattle.sefl_meaning.specs.Steps.{assigned}
use Rattle.sefl_meaning.specs.Valued.{CarriedFits, Fits}
use Rattle.term_values.specs.Fits.{term_fits, typed_fits}
use Rattle.term_values.specs.TermValues.{symbol_term}
use Rattle.sym_state.specs.Symbolic.{rest_of, with_symbol}
use Rattle.sym_state.proofs.Typing.{FitLaws, closer}
use Rattle.sym_state.proofs.Changing.{chosen_commutes, fields_stay, stays}
use Rattle.sym_state.proofs.Holding.{chosen_step}
use Rattle.sym_state.proofs.state.SymState.choose.Goals as goal

pub returns-clause-commutes : goal.returns-clause-commutes
returns-clause-commutes c = λ v.
    let old = c.args.self.now in
    let widths = old.condition.widths in
    let at = scene_of c.args.at.now in
    let target = c.args.target.now in
    let w = width_of target in
    let f : LinearTerm → ℕ = λ t. value_at t v in
    let respects = c.values_respect_the_operations.ensures v old.unknowns in
    let tests : FitLaws = record { fits = c.the_tests_of_fitting_terms.ensures.fits; typed = c.the_tests_of_fitting_terms.ensures.typed } in
    let held : CarriedFits term_fits old.carried = c.steps_keep.ensures.weaker (typed_fits widths) term_fits old.carried (closer tests widths) c.choose_symbol.ensures.typed in
    chosen_commutes v at target old c.choose_symbol.new.self c.choose_symbol.result c.choose_symbol.ensures.known respects.choice
    (λ term is. c.steps_commute.ensures.assigned term_fits f at target term old.carried held
    (subst (λ (t : LinearTerm). Fits term_fits w t) (sym is) (respects.keeps.unknown w (length widths))))
    c.choose_symbol.ensures.step

pub returns-clause-choice : goal.returns-clause-choice
returns-clause-choice c =
    chosen_step (scene_of c.args.at.now) c.args.target.now c.args.self.now c.choose_symbol.new.self c.choose_symbol.result c.choose_symbol.ensures.known c.choose_symbol.ensures.step

pub returns-clause-unknowns : goal.returns-clause-unknowns
returns-clause-unknowns c =
    let old = c.args.self.now in
    let w = width_of c.args.target.now in
    stays (λ s. s.unknowns) (with_symbol old w) (assigned (scene_of c.args.at.now) c.args.target.now (symbol_term w (length old.condition.widths)) old.carried)
    c.choose_symbol.result old c.choose_symbol.new.self (λ s. refl) c.choose_symbol.ensures.step

pub returns-clause-rest : goal.returns-clause-rest
returns-clause-rest c =
    let old = c.args.self.now in
    let w = width_of c.args.target.now in
    stays rest_of (with_symbol old w) (assigned (scene_of c.args.at.now) c.args.target.now (symbol_term w (length old.condition.widths)) old.carried)
    c.choose_symbol.result old c.choose_symbol.new.self
    (λ s j. record (rest_of old) { fields = fields_stay old.unknowns old.condition.widths w c.choose_symbol.ensures.known j }) c.choose_symbol.ensures.step
