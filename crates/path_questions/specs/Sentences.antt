-- What a question says of packets and their walks, in numbers.
use Rattle.std.specs.Prelude.{ℕ, ◌≡◌, true, List, Ok}
use Rattle.std.specs.List.{AllByRecursion}
use Rattle.sefl_syntax.specs.Trees.{CondTree}
use Rattle.job_items.specs.AtomRules.{width_of}
use Rattle.sefl_meaning.specs.declared.walk.Decision.{Decision}
use Rattle.sefl_meaning.specs.declared.walk.Place.{Place}
use Rattle.sefl_meaning.specs.Values.{Values, numbers}
use Rattle.sefl_meaning.specs.Network.{Network, Entry}
use Rattle.sefl_meaning.specs.Carried.{Carried, scene_at, read_at}
use Rattle.sefl_meaning.specs.Terms.{truth_in}
use Rattle.sefl_meaning.specs.Injected.{Starts, field_value, passages_from, unknown_count}
use Rattle.sefl_meaning.specs.Order.{Has}
use Rattle.sefl_meaning.specs.Walks.{Passage}
use Rattle.exact_records.specs.Exact.{SomeOne}
use Rattle.path_questions.specs.Questions.{Field, Question, reach, invariant, visible, asked}

-- what a field of the injection was given
abbrev pub injected_value : {V F : Type 0} → Values V F → Field → V
injected_value o field = field_value o (width_of field.target) field.number field.given

module _ (net : Network) (i : Entry) (hops : ℕ) where
  -- a packet that meets the injection, and one of its walks, with what it carries at each port on the way
  pub record Walked : Type 0 where
    pub packet : List ℕ
    pub carried : Carried ℕ
    pub starts : Starts net i packet carried
    pub walk : Passage
    pub is : Has (passages_from net i packet hops carried) walk

  -- the states of the walk that a question speaks of
  abbrev pub asked_of : Question → Walked → List (Carried ℕ)
  asked_of q x = asked q x.walk.arrivals x.walk.end' x.walk.progress

  -- a test that faults is not true; local names belong to the place's box
  abbrev pub IsTrueThere : List ℕ → Place → CondTree → Carried ℕ → Type 0
  IsTrueThere packet place test s = truth_in (numbers packet (unknown_count i)) (scene_at net place.node) test s ≡ Ok true

  -- a read that faults is not equal
  abbrev pub ReadsInjected : List ℕ → Place → Field → Carried ℕ → Type 0
  ReadsInjected packet place field s =
      read_at (scene_at net place.node) (width_of field.target) field.target s
      ≡ Ok (injected_value (numbers packet (unknown_count i)) field)

  -- Some walk of some packet comes to the place with the test true. On each walk of each packet that is delivered at the place
  -- the field reads its injected value at the end; on each arrival at the place it does so, before the port's code.
  abbrev pub Sentence : Question → Type 0
  Sentence (reach place test) = (x : Walked) × SomeOne (IsTrueThere x.packet place test) (asked_of (reach place test) x)
  Sentence (invariant place field) = (x : Walked) → AllByRecursion (ReadsInjected x.packet place field) (asked_of (invariant place field) x)
  Sentence (visible place field) = (x : Walked) → AllByRecursion (ReadsInjected x.packet place field) (asked_of (visible place field) x)

  -- the walk shows it of a test that it holds, and of a field that it reads otherwise
  abbrev pub ShowsIt : Question → Walked → Type 0
  ShowsIt (reach place test) x = SomeOne (IsTrueThere x.packet place test) (asked_of (reach place test) x)
  ShowsIt (invariant place field) x = SomeOne (λ s. ReadsInjected x.packet place field s → ⊥) (asked_of (invariant place field) x)
  ShowsIt (visible place field) x = SomeOne (λ s. ReadsInjected x.packet place field s → ⊥) (asked_of (visible place field) x)

  -- what is true where a walk shows it
  abbrev pub Shown : Question → Type 0
  Shown (reach place test) = Sentence (reach place test)
  Shown (invariant place field) = Sentence (invariant place field) → ⊥
  Shown (visible place field) = Sentence (visible place field) → ⊥

  -- and where none does
  abbrev pub NotShown : Question → Type 0
  NotShown (reach place test) = Sentence (reach place test) → ⊥
  NotShown (invariant place field) = Sentence (invariant place field)
  NotShown (visible place field) = Sentence (visible place field)

  -- a walk with these decisions, of a packet with these values, shows it
  pub record IsShownAt (q : Question) (ds : List Decision) (values : List ℕ) : Type 0 where
    pub walked : Walked
    pub packet : walked.packet ≡ values
    pub decisions : walked.walk.decisions ≡ ds
    pub shows : ShowsIt q walked
