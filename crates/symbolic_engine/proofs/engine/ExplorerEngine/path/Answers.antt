use Rattle.symbolic_engine.proofs.Engaging.{path_there}
use Rattle.symbolic_engine.proofs.engine.ExplorerEngine.path.Goals as goal

pub returns : goal.returns
returns g c =
    path_there {origin = g.B.Origin} g.B.Origin.start g.B.Origin.net c.args.over.run c.into_state.result c.args.over.how c.args.finding c.into_state.ensures.is c.into_state.ensures.run
