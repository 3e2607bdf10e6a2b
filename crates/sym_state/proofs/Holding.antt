-- What is carried and the choices, as a machine holds them.
use Rattle.std.proofs.Common.{◌≡◌, ◌≤◌, length, Result, sym, ◌∙◌}
use Rattle.sn_width.specs.declared.faults.LayoutFault.{LayoutFault}
use Rattle.sn_width.specs.declared.faults.StepFault.{StepFault}
use Rattle.cell_stacks.specs.Outcome.{on_ok, Meets}
use Rattle.code_frames.specs.Steps.{chosen, with_choices}
use Rattle.sefl_syntax.specs.declared.reference.Target.{Target}
use Rattle.job_items.specs.AtomRules.{width_of}
use Rattle.lin_term.specs.Terms.{LinearTerm}
use Rattle.sefl_meaning.specs.Carried.{Carried, Scene}
use Rattle.sefl_meaning.specs.Steps.{assigned}
use Rattle.term_values.specs.TermValues.{symbol_term, terms}
use Rattle.sym_state.specs.Symbolic.{Symbolic, held_of, with_symbol}
use Rattle.sym_state.proofs.Keeping.{meets_valued, on_ok_on_ok}
use Rattle.sym_state.proofs.Changing.{behind, next_choice}

pub chosen_step : (at : Scene) (target : Target) (old new : Symbolic) (result : Result (Unit {0}) StepFault) → old.unknowns ≤ length old.condition.widths
    → Meets (on_ok (with_symbol old (width_of target)) (assigned at target (symbol_term (width_of target) (length old.condition.widths)) old.carried)) result old new
    → Meets (chosen (terms old.unknowns) at target (held_of old)) result (held_of old) (held_of new)
chosen_step at target old new result known h =
    let u = old.unknowns in
    let w = width_of target in
    let widths = old.condition.widths in
    let step : Result (Carried LinearTerm) LayoutFault = assigned at target (symbol_term w (length widths)) old.carried in
    let e : chosen (terms u) at target (held_of old) ≡ on_ok held_of (on_ok (with_symbol old w) step) =
    (λ j. on_ok (with_choices (sym (behind u widths w known) j)) (assigned at target (symbol_term w (next_choice u widths known j)) old.carried))
    ∙ on_ok_on_ok held_of (with_symbol old w) step in
    meets_valued held_of (on_ok (with_symbol old w) step) (chosen (terms u) at target (held_of old)) result old new e h
