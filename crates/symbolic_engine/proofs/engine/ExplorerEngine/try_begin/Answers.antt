use Rattle.std.proofs.Common.{refl, sym, subst, ◌∙◌}
use Rattle.net_check.specs.Network.{network}
use Rattle.exact_records.specs.Points.{first_point}
use Rattle.sym_state.specs.Symbolic.{Symbolic}
use Rattle.symbolic_engine.specs.declared.stage.Stage.TheVariants.{Entering}
use Rattle.symbolic_engine.specs.Finding.{IsFoundOf}
use Rattle.symbolic_engine.specs.Origins.{IsRunOf, condition_seen}
use Rattle.symbolic_engine.proofs.RunLemmas.{first_run}
use Rattle.symbolic_engine.proofs.Engaging.{begins_at, open_there, refuted_there}
use Rattle.symbolic_engine.proofs.engine.ExplorerEngine.try_begin.Goals as goal

pub new-requires : goal.new-requires
new-requires g c =
    let e = c.self.inside in
    subst (IsRunOf g.B.Origin.start) (sym c.in_ok-first.ensures)
    (first_run g.B.Origin.start (network e.net.now) e.hops e.node e.port e.first c.self.invariant.1)

pub returns : goal.returns
returns g c =
    let e = c.self.inside in
    let s = g.B.Origin.start in
    let net = g.B.Origin.net in
    let x = c.in_ok-run.run' in
    let stands = begins_at s net (network e.net.now) e.hops e.node e.port e.first x c.self.invariant.0 c.self.invariant.1 (c.in_ok-run.ensures ∙ c.in_ok-first.ensures) in
    let found = subst (IsFoundOf (condition_seen x)) c.in-Open.is (subst (λ (y : Symbolic). IsFoundOf (condition_seen y) c.in_ok-refutation.field-0) c.state.ensures.is c.in_ok-refutation.ensures) in
    open_there s net x (Entering e.node e.port e.hops) 0 (first_point s) c.state.ensures.run stands _ c.in-Open.verdict refl refl found

pub returns-in-Refuted : goal.returns-in-Refuted
returns-in-Refuted g c =
    let e = c.self.inside in
    let s = g.B.Origin.start in
    let net = g.B.Origin.net in
    let x = c.in_ok-run.run' in
    let stands = begins_at s net (network e.net.now) e.hops e.node e.port e.first x c.self.invariant.0 c.self.invariant.1 (c.in_ok-run.ensures ∙ c.in_ok-first.ensures) in
    let found = subst (IsFoundOf (condition_seen x)) c.in-Refuted.is (subst (λ (y : Symbolic). IsFoundOf (condition_seen y) c.in_ok-refutation.field-0) c.state.ensures.is c.in_ok-refutation.ensures) in
    refuted_there s net x (Entering e.node e.port e.hops) 0 (first_point s) c.state.ensures.run stands c.in-Refuted.refutation found
