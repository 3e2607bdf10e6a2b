-- Questions about the walks of packets, and the states of a walk that a question speaks of.
use Rattle.std.specs.Prelude.{ℕ, ◌==◌, ◌&&◌, Bool, true, false, List, [], ◌∷◌, Option, if◌then◌else◌}
use Rattle.sefl_syntax.specs.declared.net.Side.{Side}
use Rattle.sefl_syntax.specs.declared.net.Side.TheVariants.{Inward, Outward}
use Rattle.sefl_syntax.specs.declared.reference.Target.{Target}
use Rattle.sefl_syntax.specs.Trees.{CondTree}
use Rattle.sefl_meaning.specs.declared.walk.Place.{Place}
use Rattle.sefl_meaning.specs.declared.walk.End.{End}
use Rattle.sefl_meaning.specs.declared.walk.End.TheVariants.{Stopped, Delivered, Failed, Cut}
use Rattle.sefl_meaning.specs.Carried.{Carried}
use Rattle.sefl_meaning.specs.Courses.{Progress}

-- a field of the injection: its target, the value that it is given or None, and the number of the first unknown field from it
-- on
pub record Field : Type 0 where
  pub target : Target
  pub given : Option ℕ
  pub number : ℕ

-- Does a packet come to the place with the test true there? Does the field read its injected value at the end of each walk that
-- is delivered at the place; and on each arrival at the place?
pub data Question : Type 0 where
  reach : Place → CondTree → Question
  invariant : Place → Field → Question
  visible : Place → Field → Question

abbrev pub same_side : Side → Side → Bool
same_side Inward Inward = true
same_side Inward Outward = false
same_side Outward Inward = false
same_side Outward Outward = true

abbrev pub same_place : Place → Place → Bool
same_place a b = (a.node.0 == b.node.0) && (same_side a.side b.side && (a.port == b.port))

module _ {V : Type 0} where
  -- what is carried on each arrival at the place, before the code of the port
  abbrev pub states_at : Place → List (Place × Progress V) → List (Carried V)
  states_at place [] = []
  states_at place (a ∷ arrivals) =
      if same_place place a.0 then a.1.state ∷ states_at place arrivals else states_at place arrivals

  -- the last arrival is at the place; without one, as is said of what came before
  abbrev pub ends_at : Place → Bool → List (Place × Progress V) → Bool
  ends_at place before [] = before
  ends_at place before (a ∷ arrivals) = ends_at place (same_place place a.0) arrivals

  abbrev pub if_delivered : End → List (Carried V) → List (Carried V)
  if_delivered Delivered states = states
  if_delivered Stopped states = []
  if_delivered (Failed failure site) states = []
  if_delivered Cut states = []

  -- the states that a question speaks of, of a walk with these arrivals, this end, and what is carried then
  abbrev pub asked : Question → List (Place × Progress V) → End → Progress V → List (Carried V)
  asked (reach place test) arrivals end' last = states_at place arrivals
  asked (invariant place field) arrivals end' last =
      if_delivered end' (if ends_at place false arrivals then last.state ∷ [] else [])
  asked (visible place field) arrivals end' last = states_at place arrivals
