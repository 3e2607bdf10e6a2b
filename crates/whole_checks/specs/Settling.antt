-- How many of the decisions of a record have later ones beside them.
use denote.Ref.{Bor}
use Rattle.std.specs.Prelude.{ℕ, ◌≡◌, List, [], ◌∷◌, ◌++◌, length, Option, None, Some, option_map, slice_get}
use Rattle.sefl_meaning.specs.declared.walk.Decision.{Decision}
use Rattle.exact_records.specs.Records.{RecordTree, SymStart, decisions_of}
use Rattle.whole_checks.specs.declared.fault.WholeFault.{WholeFault}
use Rattle.whole_checks.specs.declared.fault.WholeFault.TheVariants.{NotConfirmed, NotWhole, NoMemory}
use Rattle.whole_checks.specs.declared.joining.Before.{Before}
use Rattle.whole_checks.specs.Chains.{AllLast, IsLast, Joins}

-- All behind the first ones, as many as this, are the last that are offered; and the last of these first ones is not.
pub record IsSettled (s : SymStart) (ds : List Decision) (count : ℕ) : Type 0 where
  pub front : List Decision
  pub back : List Decision
  pub is : ds ≡ front ++ back
  pub counted : length front ≡ count
  pub last : AllLast s front back
  pub more : (p : List Decision) (c : Decision) → front ≡ p ++ c ∷ [] → IsLast s p c → ⊥

-- both lists have one decision at this place
abbrev pub AreSharedAt : List Decision → List Decision → ℕ → Type 0
AreSharedAt one other place = (d : Decision) × (slice_get one place ≡ Some d) × (slice_get other place ≡ Some d)

-- the decisions of the record before, if there is one
abbrev pub decisions_before : Option Before → Option (List Decision)
decisions_before before = option_map (λ b. b.decisions.now) before

abbrev pub AreSettled : SymStart → Option Before → Type 0
AreSettled s None = Unit {0}
AreSettled s (Some b) = IsSettled s b.decisions.now b.settled

-- the record comes next, and this stands before the one behind it
pub record IsJoined (s : SymStart) (before : Option Before) (x : RecordTree) (b : Before) : Type 0 where
  pub joins : Joins s (decisions_before before) x
  pub same : b.decisions.now ≡ decisions_of x
  pub settled : IsSettled s b.decisions.now b.settled

-- it does not, which is answered with its number
abbrev pub IsNotJoined : SymStart → Option Before → RecordTree → ℕ → WholeFault → Type 0
IsNotJoined s before x number (NotConfirmed at part) = ⊥
IsNotJoined s before x number (NotWhole at) = (Joins s (decisions_before before) x → ⊥) × (at ≡ number)
IsNotJoined s before x number NoMemory = Unit {0}
