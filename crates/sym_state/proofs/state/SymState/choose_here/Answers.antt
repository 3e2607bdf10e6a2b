use Rattle.std.proofs.Common.{length, subst}
use Rattle.cell_stacks.specs.Outcome.{Meets, on_ok}
use Rattle.job_items.specs.AtomRules.{width_of}
use Rattle.sefl_meaning.specs.Carried.{Scene}
use Rattle.sefl_meaning.specs.Steps.{assigned}
use Rattle.sefl_meaning.specs.Values.{numbers}
use Rattle.term_values.specs.TermValues.{symbol_term}
use Rattle.sym_state.specs.Symbolic.{choices_of, numbers_in, with_symbol}
use Rattle.sym_state.proofs.state.SymState.choose_here.Goals as goal

pub returns : goal.returns
returns c =
    let old = c.args.self.now in
    let new = c.choose.new.self in
    let target = c.args.target.now in
    let w = width_of target in
    record {
      step = subst (λ (at : Scene). Meets (on_ok (with_symbol old w) (assigned at target (symbol_term w (length old.condition.widths)) old.carried)) c.choose.result old new)
          c.scene-at.ensures c.choose.ensures.step;
      commutes = λ v. subst (λ (at : Scene). Meets (assigned at target ((numbers v old.unknowns).choice w (length (choices_of old))) (numbers_in v old)) c.choose.result (numbers_in v old) (numbers_in v new))
          c.scene-at.ensures (c.choose.ensures.commutes v);
    }
