use Rattle.std.proofs.Common.{ap, subst, sym}
use Rattle.path_exec.specs.Stepping.{SideBehind}
use Rattle.record_checks.specs.Stops.{LeadsTo, trees_of}
use Rattle.path_replay.proofs.Sides.{no_side, side_seen}
use Rattle.path_replay.proofs.Stops.{here}
use Rattle.path_replay.proofs.runs.RunsGuide.side.Goals as goal

pub side_behind-requires : goal.side_behind-requires
side_behind-requires g c = c.stop.invariant.kind

pub returns-in_default : goal.returns-in_default
returns-in_default g c = λ ds leads.
    let s = g.B.Origin.start in
    let net = g.B.Origin.net in
    let next = c.stop.inside.next in
    let d = c.args.decision in
    no_side {origin = g.B.Origin} s net next d c.stop.invariant ds (subst (LeadsTo s ds) (sym c.stop.view_is) leads)
    (subst (SideBehind (here {origin = g.B.Origin} s net) next d) c.in_default.is c.in_ok-place.ensures)

pub returns : goal.returns
returns g c = λ ds leads.
    let s = g.B.Origin.start in
    let net = g.B.Origin.net in
    let next = c.stop.inside.next in
    let d = c.args.decision in
    let place = c.in-Some.place in
    side_seen {origin = g.B.Origin} s net next d c.stop.invariant ds (subst (LeadsTo s ds) (sym c.stop.view_is) leads) place c.in_ok-condition.condition c.condition_of.ensures.own
    (ap trees_of c.in_ok-condition.ensures.condition) (subst (SideBehind (here {origin = g.B.Origin} s net) next d) c.in-Some.is c.in_ok-place.ensures)
