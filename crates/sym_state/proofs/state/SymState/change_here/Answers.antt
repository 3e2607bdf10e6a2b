use Rattle.std.proofs.Common.{subst}
use Rattle.cell_stacks.specs.Outcome.{Meets, on_ok}
use Rattle.sefl_meaning.specs.Carried.{Scene}
use Rattle.sefl_meaning.specs.Values.{numbers}
use Rattle.term_values.specs.TermValues.{terms}
use Rattle.instr_steps.specs.Stepping.{stepped}
use Rattle.sym_state.specs.Symbolic.{numbers_in, with_carried}
use Rattle.sym_state.proofs.state.SymState.change_here.Goals as goal

pub returns : goal.returns
returns c =
    let old = c.args.self.now in
    let new = c.change.new.self in
    record {
      step = subst (λ (at : Scene). Meets (on_ok (with_carried old) (stepped (terms old.unknowns) at c.args.step old.carried)) c.change.result old new)
          c.scene-at.ensures c.change.ensures.step;
      commutes = λ v. subst (λ (at : Scene). Meets (stepped (numbers v old.unknowns) at c.args.step (numbers_in v old)) c.change.result (numbers_in v old) (numbers_in v new))
          c.scene-at.ensures (c.change.ensures.commutes v);
    }
