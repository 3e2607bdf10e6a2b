-- What is found of the paths that are cut.
use Rattle.std.specs.Prelude.{ℕ, suc, ◌≡◌, ◌⊎◌, List, [], ◌∷◌, length, Option, None, Some}
use Rattle.net_check.specs.Network.{Network, Entry}
use Rattle.sefl_meaning.specs.declared.walk.Decision.{Decision}
use Rattle.sefl_meaning.specs.declared.walk.End.{End}
use Rattle.sefl_meaning.specs.declared.walk.End.TheVariants.{Stopped, Delivered, Failed, Cut}
use Rattle.sefl_meaning.specs.declared.walk.Place.{Place}
use Rattle.sefl_meaning.specs.Routes.{places_on}
use Rattle.exact_records.specs.Packets.{IsExplored}
use Rattle.exact_records.specs.Records.{HasMeaning, RecordTree, SymStart, condition_on, decisions_of, path, pruned, unexplored}
use Rattle.path_questions.specs.Deciding.{entry_of, net_of}
use Rattle.path_questions.specs.declared.subject.Subject.{Subject}
use Rattle.loop_meaning.specs.declared.answer.LoopAnswer.{LoopAnswer}
use Rattle.loop_meaning.specs.Answers.{CutPath, IsAnswerOn}
use Rattle.loop_meaning.specs.Loops.{IsRight}

abbrev pub IsCut : End → Type 0
IsCut Cut = Unit {0}
IsCut Delivered = ⊥
IsCut Stopped = ⊥
IsCut (Failed failure site) = ⊥

-- the record is a path that is cut
abbrev pub IsCutRecord : RecordTree → Type 0
IsCutRecord (path ds places end' fields verdict) = IsCut end'
IsCutRecord (pruned ds before refutation) = ⊥
IsCutRecord (unexplored ds) = ⊥

module _ (Is : RecordTree → LoopAnswer → Type 0) where
  -- the record of this number is a path that is cut, and the first of these is an answer that is so of it; the others as said
  pub record IsFoundFirst (number : ℕ) (x : RecordTree) (Others : List (ℕ × LoopAnswer) → Type 0) (found : List (ℕ × LoopAnswer)) : Type 0 where
    pub cut : IsCutRecord x
    pub answer : LoopAnswer
    pub rest : List (ℕ × LoopAnswer)
    pub is : found ≡ (number, answer) ∷ rest
    pub so : Is x answer
    pub others : Others rest

  -- these are the records that are paths that are cut, each by its number from this one on, with an answer that is so of it
  abbrev pub AreFound : ℕ → List RecordTree → List (ℕ × LoopAnswer) → Type 0
  AreFound number [] found = found ≡ []
  AreFound number (x ∷ xs) found =
      IsFoundFirst number x (λ rest. AreFound (suc number) xs rest) found ⊎ ((IsCutRecord x → ⊥) × AreFound (suc number) xs found)

module _ (net : Network) (i : Entry) (hops : ℕ) where
  -- the answer is that of the path of these decisions, where it arrives at these ports and is cut
  abbrev pub AnswersFor : List Decision → List Place → LoopAnswer → Type 0
  AnswersFor ds places answer = (start : SymStart) → IsExplored net i hops start → (p : CutPath start ds) → places_on p.way ≡ places
      → IsAnswerOn (condition_on start p.way) p.last p.earlier answer

  abbrev pub IsAnswerTo : RecordTree → LoopAnswer → Type 0
  IsAnswerTo (path ds places end' fields verdict) answer = AnswersFor ds places answer
  IsAnswerTo (pruned ds before refutation) answer = Unit {0}
  IsAnswerTo (unexplored ds) answer = Unit {0}

  -- the record is a path that is cut, and has its own meaning
  pub record IsCutPath (x : RecordTree) : Type 0 where
    pub cut : IsCutRecord x
    pub start : SymStart
    pub explored : IsExplored net i hops start
    pub meaning : HasMeaning start x

  -- each answer is right
  abbrev pub AreRight : ℕ → List RecordTree → List (ℕ × LoopAnswer) → Type 0
  AreRight number xs found = AreFound (λ x answer. IsRight net i hops (decisions_of x) answer) number xs found

-- an answer with the number of its record, if there is one
abbrev pub numbered : ℕ → Option LoopAnswer → List (ℕ × LoopAnswer)
numbered number None = []
numbered number (Some answer) = (number, answer) ∷ []

-- of this subject it keeps what is found of these records
pub record IsFindingOf (net : Network) (i : Entry) (hops : ℕ) (subject : Subject) (found : List (ℕ × LoopAnswer)) (count : ℕ) (xs : List RecordTree) : Type 0 where
  pub net_is : net_of subject ≡ net
  pub entry_is : entry_of subject ≡ i
  pub hops_is : subject.hops ≡ hops
  pub counted : count ≡ length xs
  pub finds : AreFound (IsAnswerTo net i hops) 0 xs found

module _ (net : Network) (i : Entry) (hops : ℕ) where
  -- an answer of a path that is cut, or None of another record
  abbrev pub SaysIfCut : RecordTree → Option LoopAnswer → Type 0
  SaysIfCut x None = IsCutRecord x → ⊥
  SaysIfCut x (Some answer) = IsCutRecord x × IsAnswerTo net i hops x answer

-- an injection without fields; nobody asks about it
abbrev pub no_entry : Entry
no_entry = record { own = record { node = []; port = 0; tags = []; fields = []; tests = [] }; node = record { 0 = 0 }; most_choices = 0 }
