-- What explorations of a net and an injection answer.
use Rattle.std.specs.Prelude.{ℕ, ◌≡◌, ◌≤◌, ◌+◌, List, [], ◌∷◌, ◌++◌, length, map, reverse, Result, Ok, Err, Some}
use Rattle.std.specs.Global.{Vec}
use Rattle.std.specs.List.{AllByRecursion}
use Rattle.refutation_check.specs.Longer.{condition_of}
use Rattle.sefl_meaning.specs.declared.walk.Decision.{Decision}
use Rattle.sefl_meaning.specs.declared.walk.Place.{Place}
use Rattle.sefl_meaning.specs.Network.{Network, Entry}
use Rattle.sefl_meaning.specs.Routes.{IsFirstClosed, route}
use Rattle.sefl_meaning.specs.Start.{tests_on}
use Rattle.path_records.specs.declared.records.Record.{Record}
use Rattle.exact_records.specs.Packets.{AreExactFor, IsExplored}
use Rattle.exact_records.specs.Records.{SymCondition, SymRoute, SymStart}
use Rattle.exact_records.specs.View.{record_tree, record_trees}
use Rattle.exact_records.specs.Work.{work_of}
use Rattle.sym_state.specs.Symbolic.{Symbolic}
use Rattle.path_exec.specs.declared.exploration.Ended.{Ended}
use Rattle.path_exec.specs.declared.guided.FollowFault.{FollowFault}
use Rattle.path_exec.specs.declared.guided.FollowFault.TheVariants.{Impossible, NoMemory}
use Rattle.path_exec.specs.Handing.{Handed}
use Rattle.path_exec.specs.Receiving.{Receiving}
use Rattle.path_exec.specs.Visiting.{AreVisits, Arrival, LeadsFirst}
use Rattle.symbolic_engine.specs.declared.found.Found.{Found}
use Rattle.symbolic_engine.specs.declared.guiding.Led.{Led}
use Rattle.symbolic_engine.specs.Ends.{EndsEarly, EndsPartial, EndsSo, EndsStopped, EndsWhole}
use Rattle.symbolic_engine.specs.Finds.{handed_tree}
use Rattle.symbolic_engine.specs.Leading.{IsHanded, LeadsThere}
use Rattle.symbolic_engine.specs.Origins.{condition_seen}

-- the receiver stands for exact records of the net, and none is left out
abbrev pub EndsWholeFor : Network → Entry → ℕ → ℕ → Receiving Record → ℕ → ℕ → Type 0
EndsWholeFor = EndsWhole record_tree

-- it stands for exact records, and at least one is left out
abbrev pub EndsPartialFor : Network → Entry → ℕ → ℕ → Receiving Record → ℕ → ℕ → Type 0
EndsPartialFor = EndsPartial record_tree

-- it stopped in records that are exact up to the last one
abbrev pub EndsStoppedFor : Network → Entry → ℕ → ℕ → ℕ → Receiving Record → ℕ → ℕ → Type 0
EndsStoppedFor = EndsStopped record_tree

-- it stands for records that are exact so far
abbrev pub EndsEarlyFor : Network → Entry → ℕ → ℕ → Receiving Record → Type 0
EndsEarlyFor = EndsEarly record_tree

-- how an exploration ends, where the receiver had stopped so often before it
abbrev pub ExploredFor : Network → Entry → ℕ → {E : Type 0} → ℕ → ℕ → Receiving Record → ℕ → ℕ → Result Ended E → Type 0
ExploredFor net i hops = EndsSo record_tree net i hops

-- the same where what is found is shown to an observer
abbrev pub ObservedFor : Network → Entry → ℕ → {E : Type 0} → ℕ → ℕ → Receiving (Handed Found) → ℕ → ℕ → Result Ended E → Type 0
ObservedFor net i hops = EndsSo handed_tree net i hops

module _ (net : Network) (i : Entry) (hops : ℕ) where
  -- the list is exact for the net, and so much was spent
  pub record AreFound (limit before after : ℕ) (records : List Record) : Type 0 where
    pub exact : AreExactFor net i hops limit (record_trees records)
    pub spent : after ≤ before + work_of exact.start (record_trees records)

-- the condition where a route makes this arrival: its tests with their truths, over the symbols that there are so far
abbrev pub condition_up_to : SymStart → SymRoute → Arrival → SymCondition
condition_up_to start way arrival = condition_of start.most_choices (start.unknowns ++ arrival.1.choices) (tests_on start way)

-- the state makes the arrival behind those before it, on the way of the first of these decisions, which are its own, with its ports
-- and its formulas; its first symbols are the unknown fields
pub record ArrivesIn (start : SymStart) (ds : List Decision) (before : List Arrival) (arrival : Arrival) (x : Symbolic) : Type 0 where
  pub way : SymRoute
  pub leads : LeadsFirst start.tree ds before arrival (reverse x.decisions) way
  pub places : reverse x.places ≡ map (λ (at : Arrival). at.0) (before ++ arrival ∷ [])
  pub condition : condition_seen x ≡ condition_up_to start way arrival
  pub unknowns : x.unknowns ≡ length start.unknowns

-- by these states they arrive at the port
pub record ArrivesBy (start : SymStart) (port : Place) (ds : List Decision) (states : List Symbolic) : Type 0 where
  pub way : SymRoute
  pub leads : route start.tree ds ≡ Some way
  pub visits : AreVisits (λ (x : Symbolic). x.carried) (ArrivesIn start ds) port [] way.arrivals states

module _ (net : Network) (i : Entry) (hops : ℕ) where
  -- this holds of what is explored
  pub record FollowsTo (Holds : SymStart → Type 0) : Type 0 where
    pub start : SymStart
    pub explored : IsExplored net i hops start
    pub holds : Holds start

  -- what an exploration hands over
  abbrev pub IsHandedBy : Handed Found → Type 0
  IsHandedBy item = FollowsTo (λ start. IsHanded start item)

  -- an observer takes all of it
  abbrev pub TakesHanded : Receiving (Handed Found) → Type 0
  TakesHanded m = (item : Handed Found) → IsHandedBy item → m.Takes item

  -- where decisions lead, or the first that is not offered
  abbrev pub FollowedFor : List Decision → Result Led FollowFault → Type 0
  FollowedFor ds (Ok led) = FollowsTo (λ start. LeadsThere start ds led)
  FollowedFor ds (Err (Impossible index)) = FollowsTo (λ start. IsFirstClosed start.tree ds index)
  FollowedFor ds (Err NoMemory) = Unit {0}

  abbrev pub ArrivedFor : Place → List Decision → Result (Vec Symbolic) FollowFault → Type 0
  ArrivedFor port ds (Ok states) = FollowsTo (λ start. ArrivesBy start port ds states.items)
  ArrivedFor port ds (Err (Impossible index)) = FollowsTo (λ start. IsFirstClosed start.tree ds index)
  ArrivedFor port ds (Err NoMemory) = Unit {0}
