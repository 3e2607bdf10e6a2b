use Rattle.std.proofs.Common.{subst}
use Rattle.path_exec.specs.Following.{LeadsTo, Turns}
use Rattle.path_exec.proofs.Further.{closed_there}
use Rattle.path_exec.proofs.stepping.next_behind.Goals as goal

pub turn-requires : goal.turn-requires
turn-requires g c = c.requires.kind

pub returns-in_default : goal.returns-in_default
returns-in_default g c =
    let x = g.E.Engine.views c.args.engine.now in
    closed_there x c.args.next.now c.args.decision c.requires (subst (Turns x c.args.next.now c.args.decision) c.in_default.is c.in_ok-place.ensures)
    c.routes_compose.ensures.more

pub arrived-requires : goal.arrived-requires
arrived-requires g c =
    let x = g.E.Engine.views c.args.engine.now in
    let t = subst (Turns x c.args.next.now c.args.decision) c.in-Some.is c.in_ok-place.ensures in
    (t.stands c.requires.led.at).at

pub returns : goal.returns
returns g c =
    let x = g.E.Engine.views c.args.engine.now in
    let t = subst (Turns x c.args.next.now c.args.decision) c.in-Some.is c.in_ok-place.ensures in
    subst (λ ds. LeadsTo x ds c.in_ok-behind.behind) t.decisions c.in_ok-behind.ensures
