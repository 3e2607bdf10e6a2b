-- The run that decisions guide.
use Rattle.std.specs.Prelude.{◌≡◌, List, [], ◌∷◌, ◌++◌, Result, Ok, Err, Option, None, Some}
use Rattle.lin_term.specs.Terms.{LinearTerm}
use Rattle.sefl_meaning.specs.declared.walk.Decision.{Decision}
use Rattle.sefl_meaning.specs.declared.walk.Place.{Place}
use Rattle.sefl_meaning.specs.Courses.{Progress}
use Rattle.sefl_meaning.specs.Routes.{Has, IsFirstClosed, offers, places_on, route}
use Rattle.sefl_meaning.specs.Start.{progress_of}
use Rattle.exact_records.specs.Records.{SymRoute, SymStart}
use Rattle.exact_records.specs.Points.{IsAt, Point}
use Rattle.path_exec.specs.declared.engine.Next.{Next}
use Rattle.path_exec.specs.declared.engine.Next.TheVariants.{AtEnd, AtNode}
use Rattle.path_exec.specs.declared.guided.FollowFault.{FollowFault}
use Rattle.path_exec.specs.declared.guided.FollowFault.TheVariants.{Impossible, NoMemory}
use Rattle.path_exec.specs.Location.{Location, behind_last, waiting_at}
use Rattle.path_exec.specs.Views.{Views}
use Rattle.path_exec.specs.Offers.{IsNode, IsOver}

-- the decisions lead there, to a node or to the end
pub record IsLed (s : SymStart) (ds : List Decision) (b : Point) : Type 0 where
  pub at : IsAt s b
  pub decisions : b.decisions ≡ ds
  pub way : SymRoute
  pub leads : route s.tree ds ≡ Some way
  pub left : way.left ≡ b.tree
  pub arrivals : way.arrivals ≡ at.arrivals
  pub places : places_on way ≡ b.places
  pub tests : way.tests ≡ b.tests
  pub widths : b.widths ≡ s.unknowns ++ (progress_of b.tree).choices

-- the run came there by these arrivals
pub record StandsWith (s : SymStart) (arrivals : List (Place × Progress LinearTerm)) (a : Point) : Type 0 where
  pub at : IsAt s a
  pub same : at.arrivals ≡ arrivals

module _ {P O N D T : Type 0} (x : Views P O N D T) where
  abbrev pub location_of : Next O N → Location
  location_of (AtEnd over) = x.over_at over
  location_of (AtNode node offer) = x.node_at node

  abbrev pub point_of : Next O N → Point
  point_of next = waiting_at x.start (location_of next)

  -- it is the end, or a node as its offer says
  abbrev pub IsKind : Next O N → Type 0
  IsKind (AtEnd over) = IsOver (waiting_at x.start (x.over_at over)).tree
  IsKind (AtNode node offer) = IsNode offer (waiting_at x.start (x.node_at node)).tree

  -- these decisions lead there
  pub record LeadsTo (ds : List Decision) (next : Next O N) : Type 0 where
    pub led : IsLed x.start ds (point_of next)
    pub kind : IsKind next

  -- the decision leads to this place, and no port was arrived at between
  pub record IsTurned (next : Next O N) (d : Decision) (place : P) : Type 0 where
    pub decisions : (x.place_at place).decisions ≡ (location_of next).decisions ++ d ∷ []
    pub stands : (at : IsAt x.start (point_of next)) → StandsWith x.start at.arrivals (behind_last x.start (x.place_at place))

  -- a decision leads to this place, or is not offered
  abbrev pub Turns : Next O N → Decision → Option P → Type 0
  Turns next d (Some place) = IsTurned next d place
  Turns next d None = Has (offers (point_of next).tree) d → ⊥

  -- where decisions lead, or the first that is not offered
  abbrev pub Followed : List Decision → Result (Next O N) FollowFault → Type 0
  Followed ds (Ok next) = LeadsTo ds next
  Followed ds (Err (Impossible index)) = IsFirstClosed x.start.tree ds index
  Followed ds (Err NoMemory) = Unit {0}
