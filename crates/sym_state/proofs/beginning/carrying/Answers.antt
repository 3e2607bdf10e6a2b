use Rattle.std.proofs.Common.{◌≡◌, ℕ, List, length, ap, sym, ◌∙◌, subst, arith}
use Rattle.sefl_syntax.specs.Views.{injection_tree}
use Rattle.net_check.specs.Network.{unknown_widths}
use Rattle.path_trace.specs.Traces.{Met}
use Rattle.instr_steps.specs.Scenes.{scene_of}
use Rattle.sefl_meaning.specs.Valued.{CarriedFits}
use Rattle.sefl_meaning.specs.View.{carried_of}
use Rattle.term_values.specs.Fits.{typed_fits}
use Rattle.term_values.specs.TermValues.{terms}
use Rattle.sym_state.proofs.Starting.{typed_start}
use Rattle.sym_state.proofs.beginning.carrying.Goals as goal

pub invariant_of-result : goal.invariant_of-result
invariant_of-result c =
    let raw = c.args.raw.now in
    let at = scene_of c.args.at.now.scene in
    let unknowns = c.args.at.now.terms.unknowns in
    let wanted = unknown_widths raw.fields.items in
    let condition = c.in_ok-trace.trace.condition in
    let is : condition.widths ≡ wanted = ap (λ (m : Met). m.condition.widths) c.in_ok-trace.ensures ∙ ap unknown_widths c.deref.ensures.value in
    record {
      fits = subst (λ (l : List ℕ). CarriedFits (typed_fits l) (carried_of c.in_ok-carried.carried)) (sym is)
          (typed_start at (injection_tree raw) unknowns wanted (carried_of c.in_ok-carried.carried)
          (c.symbols_are_typed.ensures.injection typed_fits (terms (length wanted)) (injection_tree raw) (c.terms_keep_types.ensures.symbols wanted) at)
          c.requires c.in_ok-carried.ensures);
      known = let l : length condition.widths ≡ length wanted = ap length is in let k : unknowns ≡ length wanted = c.requires in omega arith;
    }
