use Rattle.std.proofs.lemmas.Result.{IfOk-weaker}
use Rattle.path_exec.proofs.Guiding.{arrived}
use Rattle.path_exec.proofs.guided.arrived.Goals as goal

pub returns : goal.returns
returns g c =
    let x = g.E.Engine.views c.args.engine.now in
    IfOk-weaker c.advance.result _ _ (λ next h. arrived x (x.place_at c.args.place) c.args.steps.now c.advance.new.steps next c.requires h) c.advance.ensures
