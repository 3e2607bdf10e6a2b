-- The delivered paths of the records of an exploration, as the code finds them.
use Rattle.std.specs.Prelude.{◌≡◌, Bool, false, List, [], ◌∷◌, ◌++◌, Option, None, Some}
use Rattle.sefl_meaning.specs.declared.walk.Decision.{Decision}
use Rattle.sefl_meaning.specs.declared.walk.End.{End}
use Rattle.sefl_meaning.specs.declared.walk.End.TheVariants.{Stopped, Delivered, Failed, Cut}
use Rattle.sefl_meaning.specs.Routes.{route}
use Rattle.sefl_meaning.specs.Start.{progress_of}
use Rattle.exact_records.specs.Records.{RecordTree, SymRoute, SymStart, condition_on, path, pruned, unexplored}
use Rattle.exact_records.specs.View.{record_trees}
use Rattle.sym_state.specs.Symbolic.{Symbolic}
use Rattle.symbolic_engine.specs.declared.found.Found.{Found}
use Rattle.symbolic_engine.specs.declared.found.Found.TheVariants.{Path, Pruned, Unexplored}
use Rattle.symbolic_engine.specs.Finds.{found_tree}
use Rattle.symbolic_engine.specs.Origins.{condition_seen}
use Rattle.net_compare.specs.declared.exploring.Explored.{Explored}

-- decisions lead to this state
pub record LeadsToState (start : SymStart) (ds : List Decision) (x : Symbolic) : Type 0 where
  pub way : SymRoute
  pub leads : route start.tree ds ≡ Some way
  pub carries : (progress_of way.left).state ≡ x.carried
  pub condition : condition_seen x ≡ condition_on start way

-- the decisions of a path that ended so, if it is delivered
abbrev pub along_if : End → List Decision → Option (List Decision)
along_if Delivered ds = Some ds
along_if Stopped ds = None
along_if (Failed failure site) ds = None
along_if Cut ds = None

-- the decisions of a record, if it is a delivered path
abbrev pub delivered_along : RecordTree → Option (List Decision)
delivered_along (path ds places end' fields verdict) = along_if end' ds
delivered_along (pruned ds before refutation) = None
delivered_along (unexplored ds) = None

abbrev pub with_first : {A : Type 0} → Option A → List A → List A
with_first None xs = xs
with_first (Some x) xs = x ∷ xs

abbrev pub with_last : {A : Type 0} → List A → Option A → List A
with_last xs None = xs
with_last xs (Some x) = xs ++ x ∷ []

-- those of the delivered paths among records, in order
abbrev pub delivered_decisions : List RecordTree → List (List Decision)
delivered_decisions [] = []
delivered_decisions (r ∷ rs) = with_first (delivered_along r) (delivered_decisions rs)

-- each of these lists of decisions leads to the state at its place
abbrev pub AreLed : SymStart → List (List Decision) → List Symbolic → Type 0
AreLed start [] [] = Unit {0}
AreLed start [] (x ∷ xs) = ⊥
AreLed start (ds ∷ dss) [] = ⊥
AreLed start (ds ∷ dss) (x ∷ xs) = LeadsToState start ds x × AreLed start dss xs

-- the states of the delivered paths among these records, in order
abbrev pub AreStatesOf : SymStart → List RecordTree → List Symbolic → Type 0
AreStatesOf start rs xs = AreLed start (delivered_decisions rs) xs

-- the decisions, if there are any, lead to this state
abbrev pub LeadsBy : SymStart → Option (List Decision) → Option Symbolic → Type 0
LeadsBy start None x = Unit {0}
LeadsBy start (Some ds) None = ⊥
LeadsBy start (Some ds) (Some x) = LeadsToState start ds x

-- it is the state of the record, if that is a delivered path
abbrev pub LeadsIfDelivered : SymStart → RecordTree → Option Symbolic → Type 0
LeadsIfDelivered start r x = LeadsBy start (delivered_along r) x

-- ---- as they are gathered

abbrev pub state_if : End → Symbolic → Option Symbolic
state_if Delivered x = Some x
state_if Stopped x = None
state_if (Failed failure site) x = None
state_if Cut x = None

-- the state of a delivered path that was found
abbrev pub state_in : Found → Option Symbolic
state_in (Path x how verdict) = state_if how x
state_in (Pruned before refutation) = None
state_in Unexplored = None

-- the record of what was found behind these decisions is added, and its state, if it is a delivered path
pub record IsOneMore (found : Found) (ds : List Decision) (old new : Explored) : Type 0 where
  pub records : record_trees new.records.items ≡ record_trees old.records.items ++ found_tree found ds ∷ []
  pub states : new.states.items ≡ with_last old.states.items (state_in found)

-- these records are gathered, with the states of the delivered paths, unless memory ended
abbrev pub AreGathered : SymStart → Explored → Bool → List RecordTree → Type 0
AreGathered start e failed xs = failed ≡ false → (record_trees e.records.items ≡ xs) × AreStatesOf start xs e.states.items
