use Rattle.std.proofs.Common.{[]}
use Rattle.path_replay.proofs.Stops.{led_there, stop_led}
use Rattle.path_replay.proofs.runs.RunsGuide.first.Goals as goal

pub invariant_of-there : goal.invariant_of-there
invariant_of-there g c = led_there {origin = g.B.Origin} g.B.Origin.start g.B.Origin.net [] c.in_ok-next.next c.in_ok-next.ensures

pub returns : goal.returns
returns g c = stop_led {origin = g.B.Origin} g.B.Origin.start g.B.Origin.net [] c.in_ok-next.next c.is_own.ensures c.in_ok-next.ensures
