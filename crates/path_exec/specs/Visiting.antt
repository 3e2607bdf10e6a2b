-- Where a run arrives at a port.
use Rattle.std.specs.Prelude.{ℕ, ◌≡◌, ◌≤◌, ◌⊎◌, List, [], ◌∷◌, ◌++◌, length, map, Result, Ok, Err, Some}
use Rattle.std.specs.Global.{Vec}
use Rattle.lin_term.specs.Terms.{LinearTerm}
use Rattle.sefl_meaning.specs.declared.walk.Decision.{Decision}
use Rattle.sefl_meaning.specs.declared.walk.Place.{Place}
use Rattle.sefl_meaning.specs.Carried.{Carried}
use Rattle.sefl_meaning.specs.Courses.{Progress}
use Rattle.sefl_meaning.specs.Order.{BeginsWith}
use Rattle.sefl_meaning.specs.Routes.{IsFirstClosed, route}
use Rattle.exact_records.specs.Records.{SymRoute, SymTree}
use Rattle.exact_records.specs.Points.{arrivals_of}
use Rattle.path_exec.specs.declared.engine.Next.{Next}
use Rattle.path_exec.specs.declared.guided.FollowFault.{FollowFault}
use Rattle.path_exec.specs.declared.guided.FollowFault.TheVariants.{Impossible, NoMemory}
use Rattle.path_exec.specs.Location.{EndsWith, Location}
use Rattle.path_exec.specs.Views.{Views}
use Rattle.path_exec.specs.Moves.{Advances}
use Rattle.path_exec.specs.Following.{LeadsTo}

-- a port that a run arrives at, with what is carried there before the port's code
abbrev pub Arrival : Type 0
Arrival = Place × Progress LinearTerm

module _ {P : Type 0} (carried : P → Carried LinearTerm) (Stands : List Arrival → Arrival → P → Type 0) (port : Place) where
  -- the arrival, behind those before it, is at the port; the first place carries what is carried there and stands there, and
  -- the others are as said
  pub record IsVisit (before : List Arrival) (arrival : Arrival) (Others : List P → Type 0) (places : List P) : Type 0 where
    pub first : P
    pub rest : List P
    pub is : places ≡ first ∷ rest
    pub at : arrival.0 ≡ port
    pub carries : carried first ≡ arrival.1.state
    pub stands : Stands before arrival first
    pub others : Others rest

  -- a place for each arrival at the port, in order, behind those before all of these
  abbrev pub AreVisits : List Arrival → List Arrival → List P → Type 0
  AreVisits before [] places = places ≡ []
  AreVisits before (arrival ∷ arrivals) places =
      IsVisit before arrival (λ rest. AreVisits (before ++ arrival ∷ []) arrivals rest) places
      ⊎ ((arrival.0 ≡ port → ⊥) × AreVisits (before ++ arrival ∷ []) arrivals places)

-- without the last of these decisions a run makes at most this many arrivals
abbrev pub MakesAtMost : SymTree → ℕ → List Decision → Type 0
MakesAtMost t count ds =
    (parent : List Decision) (last : Decision) (way : SymRoute) → ds ≡ parent ++ last ∷ [] → route t parent ≡ Some way → length way.arrivals ≤ count

-- the first of these decisions: on their way this arrival comes behind those before it, and without the last of them it does
-- not come
pub record LeadsFirst (t : SymTree) (ds : List Decision) (before : List Arrival) (arrival : Arrival) (first : List Decision) (way : SymRoute) : Type 0 where
  pub begins : BeginsWith first ds
  pub leads : route t first ≡ Some way
  pub later : List Arrival
  pub arrivals : way.arrivals ≡ before ++ arrival ∷ later
  pub sooner : MakesAtMost t (length before) first

module _ {P O N D T : Type 0} (x : Views P O N D T) where
  -- the place stands at the arrival behind those before it, on the way of the first of these decisions: with the tests of that
  -- way, all ports up to this one, and the symbols that there are
  pub record ArrivesAt (ds : List Decision) (before : List Arrival) (arrival : Arrival) (place : P) : Type 0 where
    pub way : SymRoute
    pub leads : LeadsFirst x.start.tree ds before arrival (x.place_at place).decisions way
    pub tests : (x.place_at place).tests ≡ way.tests
    pub places : (x.place_at place).places ≡ map (λ (at : Arrival). at.0) (before ++ arrival ∷ [])
    pub widths : (x.place_at place).widths ≡ x.start.unknowns ++ arrival.1.choices

  -- the place stands at the arrival behind those before it, on the way from the first place, with no decision between
  pub record PassesAt (first : Location) (before : List Arrival) (arrival : Arrival) (place : P) : Type 0 where
    pub decisions : (x.place_at place).decisions ≡ first.decisions
    pub tests : (x.place_at place).tests ≡ first.tests
    pub places : (x.place_at place).places ≡ first.places ++ map (λ (at : Arrival). at.0) (before ++ arrival ∷ [])
    pub widths : (x.place_at place).widths ≡ x.start.unknowns ++ arrival.1.choices

module _ {P O N D T : Type 0} (x : Views P O N D T) (port : Place) where
  -- a copy of the place was added, where it stands at the port
  abbrev pub IsNoted : P → List P → List P → Type 0
  IsNoted place old new =
      (EndsWith (x.place_at place).places port
      × ((copy : P) × (x.place_at copy ≡ x.place_at place) × (x.carried_at copy ≡ x.carried_at place) × (new ≡ old ++ copy ∷ [])))
      ⊎ ((EndsWith (x.place_at place).places port → ⊥) × (new ≡ old))

  -- the run went on to its next decision, and its arrivals at the port were added
  pub record Visits (h : Location) (before after : ℕ) (old new : List P) (next : Next O N) : Type 0 where
    pub advances : Advances x h before after next
    pub more : List P
    pub is : new ≡ old ++ more
    pub visits : (begun : ℕ) → AreVisits x.carried_at (PassesAt x h) port [] (arrivals_of (h.tree begun)) more

  -- these decisions lead there, by these arrivals at the port
  pub record LeadsBy (ds : List Decision) (next : Next O N) (places : List P) : Type 0 where
    pub there : LeadsTo x ds next
    pub visits : AreVisits x.carried_at (ArrivesAt x ds) port [] there.led.way.arrivals places

  -- where decisions lead they arrive so
  pub record ArrivesSo (ds : List Decision) (places : List P) : Type 0 where
    pub way : SymRoute
    pub leads : route x.start.tree ds ≡ Some way
    pub visits : AreVisits x.carried_at (ArrivesAt x ds) port [] way.arrivals places

  -- all arrivals at the port, or the first decision that is not offered
  abbrev pub ArrivedAs : List Decision → Result (Vec P) FollowFault → Type 0
  ArrivedAs ds (Ok places) = ArrivesSo ds places.items
  ArrivedAs ds (Err (Impossible index)) = IsFirstClosed x.start.tree ds index
  ArrivedAs ds (Err NoMemory) = Unit {0}
