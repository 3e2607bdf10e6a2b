-- When what is known of a question is right.
use Rattle.std.specs.Prelude.{ℕ, ◌≡◌, List, [], ◌∷◌, ◌++◌, length}
use Rattle.sefl_meaning.specs.Network.{Network, Entry}
use Rattle.exact_records.specs.Records.{RecordTree, decisions_of}
use Rattle.path_questions.specs.Questions.{Question}
use Rattle.path_questions.specs.Sentences.{IsShownAt, NotShown, Shown}
use Rattle.path_questions.specs.Telling.{IsOutcome, Outcome, found, left_open, saying}

module _ (net : Network) (i : Entry) (hops : ℕ) (q : Question) (rs : List RecordTree) where
  -- the record of this number has the decisions of a walk that shows it, of a packet with these values
  pub record IsTrueHit (number : ℕ) (values : List ℕ) : Type 0 where
    pub front : List RecordTree
    pub shower : RecordTree
    pub rest : List RecordTree
    pub joined : rs ≡ front ++ shower ∷ rest
    pub numbered : number ≡ length front
    pub there : IsShownAt net i hops q (decisions_of shower) values

  -- a hit is true, and where there is none and nothing is open, no walk shows it
  abbrev pub IsTrueOf : Outcome → Type 0
  IsTrueOf (found number values) = IsTrueHit number values × Shown net i hops q
  IsTrueOf (left_open []) = NotShown net i hops q
  IsTrueOf (left_open (n ∷ ns)) = Unit {0}

  -- it is what the records tell, and true
  pub record IsRight (outcome : Outcome) : Type 0 where
    pub told : IsOutcome (saying net i hops q) rs outcome
    pub holds : IsTrueOf outcome
