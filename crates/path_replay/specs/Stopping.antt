-- What the stops of runs are seen as.
use Rattle.std.specs.Prelude.{None, Some}
use Rattle.sym_state.specs.Symbolic.{Symbolic}
use Rattle.path_exec.specs.declared.engine.Next.{Next}
use Rattle.path_exec.specs.declared.engine.Next.TheVariants.{AtEnd, AtNode}
use Rattle.record_checks.specs.Stops.{Stop}
use Rattle.symbolic_engine.specs.declared.origin.Origin.{Ghosts}
use Rattle.symbolic_engine.specs.declared.points.Finished.{Finished}
use Rattle.symbolic_engine.specs.declared.points.Waiting.{Waiting}

-- the state there
abbrev pub state_of : {B : Type 0} {origin : Ghosts B} → Next (Finished B) (Waiting B origin) → Symbolic
state_of (AtEnd over) = over.run
state_of (AtNode node offer) = node.run

abbrev pub stop_of : {B : Type 0} {origin : Ghosts B} → Next (Finished B) (Waiting B origin) → Stop
stop_of (AtEnd over) = record { state = over.run; how = Some over.how }
stop_of (AtNode node offer) = record { state = node.run; how = None }
