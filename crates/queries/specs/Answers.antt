-- Answers, and when they are right.
use Rattle.std.specs.Prelude.{ℕ, ◌≡◌, List, [], ◌∷◌, Option, None, Some}
use Rattle.sefl_syntax.specs.Trees.{AskTree}
use Rattle.net_check.specs.Network.{Network, Entry}
use Rattle.exact_records.specs.Records.{RecordTree}
use Rattle.path_questions.specs.Answers.{IsRight}
use Rattle.path_questions.specs.Placing.{Asks}
use Rattle.path_questions.specs.Questions.{Question, reach, invariant, visible}
use Rattle.path_questions.specs.Telling.{Outcome, found, left_open}
use Rattle.path_questions.specs.declared.kept.Kept.{Kept}
use Rattle.path_questions.specs.declared.question.Question as code
use Rattle.path_questions.specs.Asked.{question_seen}
use Rattle.path_questions.specs.Known.{outcome_seen}
use Rattle.queries.specs.declared.answer.Answer.{Answer}
use Rattle.queries.specs.declared.answer.Answer.TheVariants.{Yes, No, Unknown}
use Rattle.queries.specs.declared.answer.Hit.{Hit}

-- an answer: yes or no, with the number of a record and values, or without; or unknown, by the records of these numbers
pub data Reply : Type 0 where
  yes : Option (ℕ × List ℕ) → Reply
  no : Option (ℕ × List ℕ) → Reply
  unknown : List ℕ → Reply

abbrev pub hit_seen : Option Hit → Option (ℕ × List ℕ)
hit_seen None = None
hit_seen (Some hit) = Some (hit.number, hit.values)

abbrev pub answer_seen : Answer → Reply
answer_seen (Yes hit) = yes (hit_seen hit)
answer_seen (No hit) = no (hit_seen hit)
answer_seen (Unknown numbers) = unknown numbers.items

-- where a walk shows it, and where none does
abbrev pub shown_reply : Question → ℕ × List ℕ → Reply
shown_reply (reach place test) hit = yes (Some hit)
shown_reply (invariant place field) hit = no (Some hit)
shown_reply (visible place field) hit = no (Some hit)

abbrev pub not_shown_reply : Question → Reply
not_shown_reply (reach place test) = no None
not_shown_reply (invariant place field) = yes None
not_shown_reply (visible place field) = yes None

abbrev pub reply_of : Question → Outcome → Reply
reply_of q (found number values) = shown_reply q (number, values)
reply_of q (left_open []) = not_shown_reply q
reply_of q (left_open (n ∷ ns)) = unknown (n ∷ ns)

-- the replies from what is kept, in the order of the questions
abbrev pub replies_of : List code.Question → List Kept → List Reply
replies_of [] ks = []
replies_of (q ∷ qs) [] = []
replies_of (q ∷ qs) (k ∷ ks) = reply_of (question_seen q) (outcome_seen k) ∷ replies_of qs ks

-- the reply is that of what these records tell of the question, which is right
pub record IsReply (net : Network) (i : Entry) (hops : ℕ) (rs : List RecordTree) (q : Question) (reply : Reply) : Type 0 where
  pub outcome : Outcome
  pub right : IsRight net i hops q rs outcome
  pub is : reply ≡ reply_of q outcome

-- one for each question
abbrev pub AreReplies : Network → Entry → ℕ → List RecordTree → List Question → List Reply → Type 0
AreReplies net i hops rs [] [] = Unit {0}
AreReplies net i hops rs [] (reply ∷ replies) = ⊥
AreReplies net i hops rs (q ∷ qs) [] = ⊥
AreReplies net i hops rs (q ∷ qs) (reply ∷ replies) = IsReply net i hops rs q reply × AreReplies net i hops rs qs replies

-- the words ask a question, and the reply is right of it
pub record IsAnswerTo (net : Network) (i : Entry) (hops : ℕ) (rs : List RecordTree) (ask : AskTree) (reply : Reply) : Type 0 where
  pub question : Question
  pub asked : Asks net i ask question
  pub right : IsReply net i hops rs question reply
