use Rattle.std.proofs.Common.{◌≡◌, ℕ, List, [], ◌∷◌, ◌++◌, length, ap, sym, subst, arith, length-append}
use Rattle.job_items.specs.AtomRules.{width_of}
use Rattle.lin_term.specs.Terms.{LinearTerm}
use Rattle.path_cond.specs.Conditions.{Condition}
use Rattle.interval_solver.specs.Domains.{with_width}
use Rattle.path_trace.specs.Traces.{Met}
use Rattle.instr_steps.specs.Scenes.{scene_of}
use Rattle.sefl_meaning.specs.Steps.{assigned}
use Rattle.sefl_meaning.specs.Valued.{CarriedFits, Fits}
use Rattle.sefl_meaning.specs.View.{carried_of}
use Rattle.term_values.specs.Fits.{typed_fits}
use Rattle.term_values.specs.TermValues.{symbol_term}
use Rattle.sym_state.proofs.Keeping.{left_by}
use Rattle.sym_state.proofs.state.SymState.choose_symbol.Goals as goal

pub invariant_of-self-2 : goal.invariant_of-self-2
invariant_of-self-2 c =
    let old = c.self.inside.trace.condition in
    let next = c.in_ok-trace.trace.condition in
    let widths = old.widths in
    let at = scene_of c.args.at.now in
    let target = c.args.target.now in
    let w = c.width-width.result in
    let more = widths ++ w ∷ [] in
    let s = carried_of c.self.inside.carried in
    let term = c.in_ok-term.term in
    let grown : next ≡ with_width old w = ap (λ (m : Met). m.condition) c.in_ok-trace.ensures in
    let same : next.widths ≡ more = ap (λ (k : Condition). k.widths) grown in
    let is : term ≡ symbol_term w (length widths) = c.in_ok-term.ensures in
    let keeps = c.terms_keep_types.ensures.symbols [] in
    let fits : CarriedFits (typed_fits more) s = c.steps_keep.ensures.weaker (typed_fits widths) (typed_fits more) s (λ n t h. keeps.wider widths w n t h) c.self.invariant.fits in
    let new : Fits (typed_fits more) w term = subst (λ (t : LinearTerm). Fits (typed_fits more) w t) (sym is) (keeps.unknown widths w) in
    let at_target : Fits (typed_fits more) (width_of target) term = subst (λ (n : ℕ). Fits (typed_fits more) n term) c.width-width.ensures new in
    record {
      fits = subst (λ (l : List ℕ). CarriedFits (typed_fits l) (carried_of c.put.new.state)) (sym same)
          (left_by (CarriedFits (typed_fits more)) (assigned at target term s) c.put.result s (carried_of c.put.new.state) c.put.ensures
          (c.steps_keep.ensures.assigned (typed_fits more) at target term s fits at_target) fits);
      known = let l : length next.widths ≡ length more = ap length same in let k = c.self.invariant.known in omega (arith, length-append widths (w ∷ []));
    }
