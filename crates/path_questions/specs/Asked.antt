-- The questions of the program, as what they ask, and the words that they come from.
use Rattle.std.specs.Prelude.{ℕ, ◌≡◌, ◌⊎◌, List, [], ◌∷◌, ◌++◌, length, Option, None, Some}
use Rattle.std.specs.List.{AllByRecursion}
use Rattle.sefl_syntax.specs.declared.job.RawField.{RawField}
use Rattle.sefl_syntax.specs.declared.job.RawPlace.{RawPlace}
use Rattle.sefl_syntax.specs.declared.net.Side.TheVariants.{Inward, Outward}
use Rattle.sefl_syntax.specs.declared.reference.Target.{Target}
use Rattle.sefl_syntax.specs.Trees.{AskTree}
use Rattle.sefl_syntax.specs.Views.{cond_tree}
use Rattle.net_check.specs.Network.{Network, Entry}
use Rattle.sefl_meaning.specs.declared.walk.Place.{Place}
use Rattle.path_questions.specs.Questions as questions
use Rattle.path_questions.specs.Placing.{Asks, HasNoField, HasNoPlace, IsFieldFrom, IsMisplaced, IsNotInjected, IsPlaceOf}
use Rattle.path_questions.specs.declared.looking.Look.{Look}
use Rattle.path_questions.specs.declared.looking.Look.TheVariants.{OnArrivals, AtEnd}
use Rattle.path_questions.specs.declared.placing.AskFault.{AskFault}
use Rattle.path_questions.specs.declared.placing.AskFault.TheVariants.{NoPlace, NoField, NoMemory}
use Rattle.path_questions.specs.declared.question.InjectedField.{InjectedField}
use Rattle.path_questions.specs.declared.question.Question.{Question}
use Rattle.path_questions.specs.declared.question.Question.TheVariants.{Reach, Invariant, Visible}

abbrev pub field_seen : InjectedField → questions.Field
field_seen f = record { target = f.target.now; given = f.given; number = f.number }

abbrev pub question_seen : Question → questions.Question
question_seen (Reach place test) = questions.reach place (cond_tree test.now)
question_seen (Invariant place field) = questions.invariant place (field_seen field)
question_seen (Visible place field) = questions.visible place (field_seen field)

-- where on a path a question looks
abbrev pub look_of : questions.Question → Look
look_of (questions.reach place test) = OnArrivals place
look_of (questions.invariant place field) = AtEnd place
look_of (questions.visible place field) = OnArrivals place

-- the port that words name, or there is none
abbrev pub FoundPlace : Network → RawPlace → Option Place → Type 0
FoundPlace net raw None = HasNoPlace net raw
FoundPlace net raw (Some place) = IsPlaceOf net raw place

-- the output port that they name
abbrev pub FoundOutput : Network → RawPlace → Option Place → Type 0
FoundOutput net raw None = HasNoPlace net raw ⊎ (raw.side ≡ Inward)
FoundOutput net raw (Some place) = IsPlaceOf net raw place × (raw.side ≡ Outward)

-- behind fields with this many unknown ones: the first field with the words of the target, or there is none
abbrev pub FoundField : ℕ → Target → List RawField → Option InjectedField → Type 0
FoundField number target fs None = HasNoField target fs
FoundField number target fs (Some field) = IsFieldFrom number target fs (field_seen field)

module _ (net : Network) (i : Entry) where
  abbrev pub IsAsked : AskTree → Question → Type 0
  IsAsked ask question = Asks net i ask (question_seen question)

  -- the words ask a question
  abbrev pub AsksSome : AskTree → Type 0
  AsksSome ask = (question : questions.Question) × Asks net i ask question

  -- why they ask none: a place that is not there comes before a target that is not injected
  abbrev pub IsFault : AskTree → AskFault → Type 0
  IsFault ask NoPlace = IsMisplaced net i ask
  IsFault ask NoField = (IsMisplaced net i ask → ⊥) × IsNotInjected net i ask
  IsFault ask NoMemory = Unit {0}

  -- the questions of the words, in their order
  abbrev pub AreAsked : List AskTree → List Question → Type 0
  AreAsked [] [] = Unit {0}
  AreAsked [] (question ∷ questions) = ⊥
  AreAsked (ask ∷ asks) [] = ⊥
  AreAsked (ask ∷ asks) (question ∷ questions) = IsAsked ask question × AreAsked asks questions

  -- the words of this number are the first that ask none, for this cause
  pub record IsBadAsk (asks : List AskTree) (number : ℕ) (fault : AskFault) : Type 0 where
    pub front : List AskTree
    pub bad : AskTree
    pub rest : List AskTree
    pub is : asks ≡ front ++ bad ∷ rest
    pub numbered : number ≡ length front
    pub good : AllByRecursion AsksSome front
    pub fault_is : IsFault bad fault
