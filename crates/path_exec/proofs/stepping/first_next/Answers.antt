use Rattle.std.proofs.Common.{ap, subst}
use Rattle.std.proofs.lemmas.Result.{IfOk-weaker}
use Rattle.exact_records.specs.Points.{Point}
use Rattle.path_exec.specs.Following.{LeadsTo}
use Rattle.path_exec.proofs.Guiding.{starts_at}
use Rattle.path_exec.proofs.stepping.first_next.Goals as goal

pub arrived-requires : goal.arrived-requires
arrived-requires g c = starts_at (g.E.Engine.views c.args.engine.now) c.in_ok-place.place c.in_ok-place.ensures

pub returns : goal.returns
returns g c =
    let x = g.E.Engine.views c.args.engine.now in
    IfOk-weaker c.arrived.result _ _ (λ next h. subst (λ ds. LeadsTo x ds next) (ap (λ (a : Point). a.decisions) c.in_ok-place.ensures) h) c.arrived.ensures
