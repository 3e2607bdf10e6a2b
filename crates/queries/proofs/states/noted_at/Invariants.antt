use Rattle.std.proofs.Common.{◌≡◌, drop}
use Rattle.queries.specs.Paths.{noted_at}
use Rattle.queries.proofs.states.noted_at.Given as goal

-- the stops that are left tell it
abbrev pub invariant-loop-stop : goal.invariant-loop-stop
invariant-loop-stop l = noted_at l.place l.stops ≡ noted_at l.place (drop l.stop-index l.stops)
