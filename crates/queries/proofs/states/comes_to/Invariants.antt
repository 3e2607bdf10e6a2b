use Rattle.std.proofs.Common.{◌≡◌, drop}
use Rattle.queries.specs.Paths.{has_place}
use Rattle.queries.proofs.states.comes_to.Given as goal

-- the ports that are left tell it
abbrev pub invariant-loop-port : goal.invariant-loop-port
invariant-loop-port l = has_place l.place l.places ≡ has_place l.place (drop l.port-index l.places)
