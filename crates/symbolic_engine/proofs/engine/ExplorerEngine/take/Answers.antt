use Rattle.std.proofs.Common.{subst}
use Rattle.net_check.specs.Network.{Network}
use Rattle.symbolic_engine.specs.Turning.{IsStageBehind}
use Rattle.symbolic_engine.proofs.Turns.{awaited, behind_point}
use Rattle.symbolic_engine.proofs.engine.ExplorerEngine.take.Goals as goal

pub noted-requires : goal.noted-requires
noted-requires g c =
    let node = c.args.node.now in
    awaited g.B.Origin.start g.B.Origin.net node.run node.wait c.args.decision c.requires

pub stage_behind-requires : goal.stage_behind-requires
stage_behind-requires g c =
    let node = c.args.node.now in
    awaited g.B.Origin.start g.B.Origin.net node.run node.wait c.args.decision c.requires

pub returns : goal.returns
returns g c = λ begun to e.
    let node = c.args.node.now in
    behind_point g.B.Origin.start g.B.Origin.net node.run c.args.decision c.in_ok-run.run' node.wait c.in_ok-stage.stage c.is_own.ensures c.in_ok-run.ensures
    (subst (λ (net : Network). IsStageBehind net node.wait c.args.decision c.in_ok-stage.stage) c.self.invariant.0 c.in_ok-stage.ensures) begun to e
