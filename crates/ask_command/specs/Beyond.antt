-- Answers under another bound of hops.
use Rattle.std.specs.Prelude.{ℕ, ◌≡◌, List, [], ◌∷◌}
use Rattle.net_check.specs.Network.{Network, Entry}
use Rattle.exact_records.specs.Records.{RecordTree}
use Rattle.path_questions.specs.Answers.{IsTrueOf}
use Rattle.path_questions.specs.Questions.{Question}
use Rattle.path_questions.specs.Telling.{Outcome}
use Rattle.queries.specs.Answers.{Reply, reply_of}

module _ (net : Network) (i : Entry) (hops : ℕ) (rs : List RecordTree) where
  -- what the reply tells of the question is true
  pub record IsTrueReply (q : Question) (reply : Reply) : Type 0 where
    pub outcome : Outcome
    pub holds : IsTrueOf net i hops q rs outcome
    pub is : reply ≡ reply_of q outcome

  -- what each reply tells of its question is true
  abbrev pub AreTrueReplies : List Question → List Reply → Type 0
  AreTrueReplies [] [] = Unit {0}
  AreTrueReplies [] (reply ∷ replies) = ⊥
  AreTrueReplies (q ∷ qs) [] = ⊥
  AreTrueReplies (q ∷ qs) (reply ∷ replies) = IsTrueReply q reply × AreTrueReplies qs replies
