use Rattle.std.proofs.Common.{sym, subst, ◌∙◌}
use Rattle.net_check.specs.Network.{network}
use Rattle.symbolic_engine.specs.Origins.{IsRunOf}
use Rattle.symbolic_engine.proofs.RunLemmas.{first_run}
use Rattle.symbolic_engine.proofs.Engaging.{begins_at}
use Rattle.symbolic_engine.proofs.engine.ExplorerEngine.begin.Goals as goal

pub new-requires : goal.new-requires
new-requires g c =
    let e = c.self.inside in
    subst (IsRunOf g.B.Origin.start) (sym c.in_ok-first.ensures)
    (first_run g.B.Origin.start (network e.net.now) e.hops e.node e.port e.first c.self.invariant.1)

pub returns : goal.returns
returns g c =
    let e = c.self.inside in
    begins_at g.B.Origin.start g.B.Origin.net (network e.net.now) e.hops e.node e.port e.first c.in_ok-run.run' c.self.invariant.0 c.self.invariant.1
    (c.in_ok-run.ensures ∙ c.in_ok-first.ensures)
