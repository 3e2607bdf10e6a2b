-- What `ask` writes of an accepted job.
use Rattle.std.specs.Prelude.{ℕ, ◌≡◌, ◌≤◌, List, [], ◌∷◌, ◌++◌, ◌⊎◌, length}
use Rattle.sefl_syntax.specs.Trees.{AskTree}
use Rattle.net_check.specs.Network.{Network, Entry, with_choices}
use Rattle.exact_records.specs.Packets.{AreExactFor}
use Rattle.exact_records.specs.Records.{RecordTree}
use Rattle.hop_bounds.specs.Beyond.{AllUncut, GoBeyond}
use Rattle.path_questions.specs.Placing.{Asks, IsMisplaced, IsNotInjected}
use Rattle.path_questions.specs.Questions.{Question}
use Rattle.queries.specs.Answers.{AreReplies, Reply}
use Rattle.command_runs.specs.Inputs.{Given, a_net}
use Rattle.command_edge.specs.Puts.{Outcome, text, refused}
use Rattle.command_edge.specs.declared.ending.Ending.{Ending}
use Rattle.command_edge.specs.declared.fault.OwnFault.{OwnFault}
use Rattle.command_edge.specs.declared.fault.OwnFault.TheVariants.{BadAsk, NoMemory}
use Rattle.explore_command.specs.Explores.{IsEnding}
use Rattle.ask_command.specs.Texts.{answers_text}

module _ (net : Network) (i : Entry) where
  -- the words ask these questions, in order
  abbrev pub AllAsk : List AskTree → List Question → Type 0
  AllAsk [] [] = Unit {0}
  AllAsk [] (q ∷ qs) = ⊥
  AllAsk (ask ∷ asks) [] = ⊥
  AllAsk (ask ∷ asks) (q ∷ qs) = Asks net i ask q × AllAsk asks qs

  -- the words name a place that is not there, 1; or, at a place that is there, a target that is not injected, 2
  abbrev pub IsBadBy : ℕ → AskTree → Type 0
  IsBadBy kind ask = ((kind ≡ 1) × IsMisplaced net i ask) ⊎ ((kind ≡ 2) × (IsMisplaced net i ask → ⊥) × IsNotInjected net i ask)

  -- the words of this number are the first that ask no question, by this kind
  pub record IsFirstBad (asks : List AskTree) (number kind : ℕ) : Type 0 where
    pub front : List AskTree
    pub bad : AskTree
    pub rest : List AskTree
    pub is : asks ≡ front ++ bad ∷ rest
    pub numbered : number ≡ length front
    pub questions : List Question
    pub good : AllAsk front questions
    pub fault : IsBadBy kind bad

  -- why a job has no answers
  abbrev pub IsAskRefusal : List AskTree → OwnFault → Type 0
  IsAskRefusal asks (BadAsk number kind) = IsFirstBad asks number kind
  IsAskRefusal asks NoMemory = Unit {0}
  IsAskRefusal asks _ = ⊥

-- Where no record was cut by the bound of hops, and none was left untried: under every larger bound each packet has the same walks,
-- the records are exact, and each reply is right.
abbrev pub HoldBeyond : ℕ → ℕ → Network → Entry → List RecordTree → List Question → List Reply → Type 0
HoldBeyond hops limit net i records questions replies = AllUncut records → (more : ℕ) → hops ≤ more
    → GoBeyond net i hops limit records more × AreReplies net i more records questions replies

module _ (hops limit : ℕ) (net : Network) (i : Entry) (asks : List AskTree) where
  -- the words ask questions, the records of one exploration are exact and end so, and this is the text of one right answer to each
  -- question over these records; the answers hold for every larger bound of hops where no record was cut or left untried
  pub record IsAnswersText (ending : Ending) (whole : List ℕ) : Type 0 where
    pub questions : List Question
    pub asked : AllAsk net i asks questions
    pub records : List RecordTree
    pub exact : AreExactFor net i hops limit records
    pub ends : IsEnding ending records
    pub replies : List Reply
    pub right : AreReplies net i hops records questions replies
    pub beyond : HoldBeyond hops limit net i records questions replies
    pub line : whole ≡ answers_text replies

  -- such a text, or the first question that is refused
  abbrev pub AnswersOf : Outcome → Type 0
  AnswersOf (text ending whole) = IsAnswersText ending whole
  AnswersOf (refused (BadAsk number kind)) = IsFirstBad net i asks number kind
  AnswersOf (refused _) = ⊥

-- `ask` of a job, with this bound on choices of cases
abbrev pub AskComes : ℕ → ℕ → ℕ → List Given → Outcome → Type 0
AskComes most hops limit (a_net net i asks ∷ []) outcome = AnswersOf hops limit net (with_choices most i) asks outcome
AskComes most hops limit _ outcome = ⊥
