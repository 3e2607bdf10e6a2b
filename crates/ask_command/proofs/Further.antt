-- Replies that are right, or true, under another bound of hops.
use Rattle.std.proofs.Common.{◌≡◌, ◌∙◌, ◌≤◌, sym, ℕ, List, [], ◌∷◌, arith}
use Rattle.net_check.specs.Network.{Network, Entry}
use Rattle.exact_records.specs.Packets.{AreExactFor}
use Rattle.exact_records.specs.Records.{RecordTree}
use Rattle.hop_bounds.specs.Beyond.{AllUncut, RightAnswersGoBeyond, UncutRecordsGoBeyond}
use Rattle.path_questions.specs.Answers.{IsRight, IsTrueOf}
use Rattle.path_questions.specs.Questions.{Question}
use Rattle.path_questions.specs.Telling.{Outcome}
use Rattle.queries.specs.Answers.{AreReplies, Reply}
use Rattle.ask_command.specs.Asks.{HoldBeyond}
use Rattle.ask_command.specs.Beyond.{AreTrueReplies}

module _ (net : Network) (i : Entry) (hops more : ℕ) (rs : List RecordTree) where
  pub right_replies : ((q : Question) (outcome : Outcome) → IsRight net i hops q rs outcome → IsRight net i more q rs outcome) → (qs : List Question) (replies : List Reply)
      → AreReplies net i hops rs qs replies → AreReplies net i more rs qs replies
  right_replies go [] [] h = h
  right_replies go [] (reply ∷ replies) h = h
  right_replies go (q ∷ qs) [] h = h
  right_replies go (q ∷ qs) (reply ∷ replies) h =
      (record { outcome = h.0.outcome; right = go q h.0.outcome h.0.right; is = h.0.is }, right_replies go qs replies h.1)

  pub true_replies : ((q : Question) (outcome : Outcome) → IsTrueOf net i hops q rs outcome → IsTrueOf net i more q rs outcome) → (qs : List Question) (replies : List Reply)
      → AreReplies net i hops rs qs replies → AreTrueReplies net i more rs qs replies
  true_replies go [] [] h = h
  true_replies go [] (reply ∷ replies) h = h
  true_replies go (q ∷ qs) [] h = h
  true_replies go (q ∷ qs) (reply ∷ replies) h =
      (record { outcome = h.0.outcome; holds = go q h.0.outcome h.0.right.holds; is = h.0.is }, true_replies go qs replies h.1)

module _ (net : Network) (i : Entry) (hops limit : ℕ) (rs : List RecordTree) (qs : List Question) (replies : List Reply) where
  pub hold_beyond : UncutRecordsGoBeyond net i hops → RightAnswersGoBeyond net i hops → AreExactFor net i hops limit rs → AreReplies net i hops rs qs replies
      → HoldBeyond hops limit net i rs qs replies
  hold_beyond records answers exact right = λ uncut more least.
      (records limit rs exact uncut more least, right_replies net i hops more rs (answers limit rs exact uncut more least) qs replies right)

  -- what holds beyond one bound holds beyond a larger one
  pub hold_further : HoldBeyond hops limit net i rs qs replies → AllUncut rs → (more : ℕ) → hops ≤ more → HoldBeyond more limit net i rs qs replies
  hold_further h uncut more least = λ same most later.
      let near = h uncut more least in
      let far = h uncut most (omega (arith, least, later)) in
      (record { walks = λ v s starts. far.0.walks v s starts ∙ sym (near.0.walks v s starts); exact = far.0.exact }, far.1)
