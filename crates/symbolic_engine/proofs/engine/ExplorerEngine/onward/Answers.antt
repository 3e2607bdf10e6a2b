use Rattle.std.proofs.Common.{IfOk, subst}
use Rattle.net_check.specs.Network.{Network}
use Rattle.path_exec.specs.Moves.{Moves}
use Rattle.symbolic_engine.specs.Seeing.{standing_at, views_of}
use Rattle.symbolic_engine.proofs.engine.ExplorerEngine.onward.Goals as goal

pub returns : goal.returns
returns g c =
    let s = g.B.Origin.start in
    subst (λ (net : Network). IfOk c.onward.result (Moves (views_of s net) (standing_at s net c.args.place.run c.args.place.stage) c.args.steps.now c.onward.new.steps))
    c.self.invariant.0 c.onward.ensures
