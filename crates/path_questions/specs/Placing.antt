-- Which question the words of a job ask, and why they ask none.
use Rattle.std.specs.Prelude.{ℕ, ◌≡◌, ◌<◌, ◌+◌, ◌⊎◌, List, [], ◌∷◌, length, Some}
use Rattle.std.specs.List.{AllByRecursion}
use Rattle.sefl_syntax.specs.declared.job.RawField.{RawField}
use Rattle.sefl_syntax.specs.declared.job.RawPlace.{RawPlace}
use Rattle.sefl_syntax.specs.declared.net.Side.TheVariants.{Inward, Outward}
use Rattle.sefl_syntax.specs.declared.reference.Target.{Target}
use Rattle.sefl_syntax.specs.Trees.{AskTree, reach, invariant, visible}
use Rattle.job_items.specs.declared.ports.Ports.{Ports}
use Rattle.net_check.specs.Network.{Network, Entry, node_ports, ports_on, unknown_width}
use Rattle.net_check.specs.Places.{node_position}
use Rattle.sefl_meaning.specs.declared.walk.Place.{Place}
use Rattle.path_questions.specs.Questions as questions
use Rattle.path_questions.specs.Questions.{Field, Question}

-- the words name this port, which the net has
pub record IsPlaceOf (net : Network) (raw : RawPlace) (place : Place) : Type 0 where
  pub node : node_position net.own raw.node ≡ Some place.node.0
  pub side : place.side ≡ raw.side
  pub port : place.port ≡ raw.port
  pub ports : Ports
  pub known : node_ports net place.node ≡ Some ports
  pub within : place.port < ports_on raw.side ports

abbrev pub HasNoPlace : Network → RawPlace → Type 0
HasNoPlace net raw = (place : Place) → IsPlaceOf net raw place → ⊥

-- the first of the fields with the same words; the first unknown field from them on has this number
abbrev pub IsFieldFrom : ℕ → Target → List RawField → Field → Type 0
IsFieldFrom number target [] field = ⊥
IsFieldFrom number target (f ∷ fs) field =
    ((f.target ≡ target) × (field ≡ record { target = target; given = f.value; number = number }))
    ⊎ ((f.target ≡ target → ⊥) × IsFieldFrom (number + length (unknown_width f)) target fs field)

abbrev pub HasNoField : Target → List RawField → Type 0
HasNoField target fs = AllByRecursion (λ (f : RawField). f.target ≡ target → ⊥) fs

module _ (net : Network) (i : Entry) where
  abbrev pub IsInjected : Target → Field → Type 0
  IsInjected target field = IsFieldFrom 0 target i.own.fields field

  -- the words ask this question
  abbrev pub Asks : AskTree → Question → Type 0
  Asks (reach raw test) (questions.reach place own) = IsPlaceOf net raw place × (own ≡ test)
  Asks (invariant target raw) (questions.invariant place field) =
      IsPlaceOf net raw place × (raw.side ≡ Outward) × IsInjected target field
  Asks (visible target raw) (questions.visible place field) = IsPlaceOf net raw place × IsInjected target field
  Asks _ _ = ⊥

  -- their place is not in the net, or is an input port where packets are to be delivered
  abbrev pub IsMisplaced : AskTree → Type 0
  IsMisplaced (reach raw test) = HasNoPlace net raw
  IsMisplaced (invariant target raw) = HasNoPlace net raw ⊎ (raw.side ≡ Inward)
  IsMisplaced (visible target raw) = HasNoPlace net raw

  -- their target is not injected
  abbrev pub IsNotInjected : AskTree → Type 0
  IsNotInjected (reach raw test) = ⊥
  IsNotInjected (invariant target raw) = HasNoField target i.own.fields
  IsNotInjected (visible target raw) = HasNoField target i.own.fields
