use Rattle.symbolic_engine.proofs.Engaging.{same_place}
use Rattle.std.proofs.Common.{ap}
use Rattle.sym_state.specs.Symbolic.{Symbolic}
use Rattle.symbolic_engine.proofs.engine.ExplorerEngine.fork.Goals as goal

pub returns-clause-stands : goal.returns-clause-stands
returns-clause-stands g c =
    let place = c.args.place.now in
    same_place g.B.Origin.start g.B.Origin.net place.run c.in_ok-run.run' place.stage c.in_ok-stage.stage c.in_ok-run.ensures c.in_ok-stage.ensures

pub returns-clause-carries : goal.returns-clause-carries
returns-clause-carries g c = ap (λ (x : Symbolic). x.carried) c.in_ok-run.ensures
