use Rattle.std.proofs.Common.{◌≡◌, sym, subst, ◌∙◌, true}
use Rattle.sym_state.specs.Symbolic.{Symbolic}
use Rattle.symbolic_engine.specs.Origins.{IsRunOf}
use Rattle.symbolic_engine.specs.Stages.{has_typed_test}
use Rattle.symbolic_engine.specs.Turning.{IsNoted}
use Rattle.symbolic_engine.proofs.Turns.{run_noted}
use Rattle.symbolic_engine.proofs.turning.noted.Goals as goal

pub note-requires-clause-typed : goal.note-requires-clause-typed
note-requires-clause-typed g c =
    let node = c.args.node.now in
    subst (λ (x : Symbolic). has_typed_test x node.wait ≡ true) (sym (c.deref_mut.ensures.value ∙ c.into_box-state.ensures.is ∙ c.in_ok-here.ensures)) node.typed

pub of-requires : goal.of-requires
of-requires g c =
    run_noted g.B.Origin.start c.args.node.now.wait c.deref_mut.result.now c.args.decision c.note.new.state
    (subst (IsRunOf g.B.Origin.start) (sym (c.deref_mut.ensures.value ∙ c.into_box-state.ensures.is)) c.into_box-state.ensures.run) c.in_ok-note.ensures

pub returns : goal.returns
returns g c =
    let node = c.args.node.now in
    subst (λ (y : Symbolic). IsNoted node.wait node.run c.args.decision y) (sym c.of.ensures)
    (subst (λ (x : Symbolic). IsNoted node.wait x c.args.decision c.note.new.state) (c.deref_mut.ensures.value ∙ c.into_box-state.ensures.is ∙ c.in_ok-here.ensures) c.in_ok-note.ensures)
