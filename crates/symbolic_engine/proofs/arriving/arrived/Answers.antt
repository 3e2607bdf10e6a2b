use Rattle.std.proofs.Common.{sym, ap, subst, ◌∙◌}
use Rattle.sefl_meaning.specs.Walks.{place_at}
use Rattle.sym_state.specs.Symbolic.{Symbolic, with_place}
use Rattle.symbolic_engine.specs.Origins.{IsRunOf}
use Rattle.symbolic_engine.proofs.RunLemmas.{run_placed}
use Rattle.symbolic_engine.proofs.arriving.arrived.Goals as goal

pub of-requires : goal.of-requires
of-requires g c =
    let place = place_at c.args.node c.args.side c.args.port in
    subst (IsRunOf g.B.Origin.start) (sym (c.in_ok-arrive.ensures.arrived ∙ ap (λ (x : Symbolic). with_place x place) (c.deref_mut.ensures.value ∙ c.into_box-state.ensures.is)))
    (run_placed g.B.Origin.start c.args.run place c.into_box-state.ensures.run)

pub returns : goal.returns
returns g c =
    c.of.ensures ∙ c.in_ok-arrive.ensures.arrived ∙ ap (λ (x : Symbolic). with_place x (place_at c.args.node c.args.side c.args.port)) (c.deref_mut.ensures.value ∙ c.into_box-state.ensures.is)
