use Rattle.std.proofs.Common.{◌++◌, ◌∷◌, [], subst, sym}
use Rattle.path_exec.specs.Following.{location_of}
use Rattle.path_exec.specs.Stepping.{LeadsOn}
use Rattle.record_checks.specs.Stops.{LeadsTo}
use Rattle.path_replay.proofs.Stops.{closed_behind, here, leads_behind, led_there}
use Rattle.path_replay.proofs.runs.RunsGuide.behind.Goals as goal

pub returns-in_default : goal.returns-in_default
returns-in_default g c = λ ds leads.
    let s = g.B.Origin.start in
    let net = g.B.Origin.net in
    let x = here {origin = g.B.Origin} s net in
    let next = c.stop.inside.next in
    let d = c.args.decision in
    closed_behind {origin = g.B.Origin} s net next d ds (subst (LeadsTo s ds) (sym c.stop.view_is) leads)
    (subst (LeadsOn x ((location_of x next).decisions ++ d ∷ [])) c.in_default.is c.in_ok-behind.ensures)

pub invariant_of-there : goal.invariant_of-there
invariant_of-there g c =
    let s = g.B.Origin.start in
    let net = g.B.Origin.net in
    let x = here {origin = g.B.Origin} s net in
    let ds = (location_of x c.stop.inside.next).decisions ++ c.args.decision ∷ [] in
    led_there {origin = g.B.Origin} s net ds c.in-Some.next (subst (LeadsOn x ds) c.in-Some.is c.in_ok-behind.ensures)

pub returns : goal.returns
returns g c = λ ds leads.
    let s = g.B.Origin.start in
    let net = g.B.Origin.net in
    let x = here {origin = g.B.Origin} s net in
    let next = c.stop.inside.next in
    let d = c.args.decision in
    leads_behind {origin = g.B.Origin} s net next d ds (subst (LeadsTo s ds) (sym c.stop.view_is) leads) c.in-Some.next c.is_own.ensures
    (subst (LeadsOn x ((location_of x next).decisions ++ d ∷ [])) c.in-Some.is c.in_ok-behind.ensures)
