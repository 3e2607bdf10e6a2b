-- The questions of a job have one outcome.
use Rattle.std.proofs.Common.{◌≡◌, ◌∙◌, ℕ, ◌+◌, inl, inr, List, [], ◌∷◌, length, refl, sym, ap, subst, Some}
use Rattle.sefl_syntax.specs.declared.job.RawField.{RawField}
use Rattle.sefl_syntax.specs.declared.job.RawPlace.{RawPlace}
use Rattle.sefl_syntax.specs.declared.reference.Target.{Target}
use Rattle.sefl_syntax.specs.Trees as trees
use Rattle.sefl_syntax.specs.Trees.{AskTree}
use Rattle.net_check.specs.Network.{Network, Entry, unknown_width}
use Rattle.sefl_meaning.specs.declared.walk.Place.{Place}
use Rattle.exact_records.specs.Packets.{AreExactFor}
use Rattle.exact_records.specs.Records.{RecordTree}
use Rattle.exact_records.proofs.Arriving.{some_same}
use Rattle.path_questions.specs.Answers.{IsRight}
use Rattle.path_questions.specs.Telling as Known
use Rattle.path_questions.specs.Placing.{Asks, IsFieldFrom, IsPlaceOf}
use Rattle.path_questions.specs.Questions.{Field, Question, reach, invariant, visible}
use Rattle.one_list.specs.Told.{RightAnswersAreOne}
use Rattle.command_edge.specs.Puts.{Outcome, text, refused}
use Rattle.command_edge.specs.declared.ending.Ending.{Ending}
use Rattle.queries.specs.Answers.{AreReplies, IsReply, Reply, reply_of}
use Rattle.explore_command.specs.Explores.{IsEnding}
use Rattle.ask_command.specs.Asks.{AllAsk, AnswersOf, IsAnswersText}
use Rattle.ask_command.specs.Texts.{answers_text}
use Rattle.ask_command.proofs.OnceLemmas.{refused_alone}

-- ---- words ask one question

same_field : (number : ℕ) (target : Target) (fs : List RawField) (a b : Field) → IsFieldFrom number target fs a → IsFieldFrom number target fs b → a ≡ b
same_field number target [] a b h k = absurd h
same_field number target (f ∷ fs) a b (inl h) (inl k) = h.1 ∙ sym k.1
same_field number target (f ∷ fs) a b (inl h) (inr k) = absurd (k.0 h.0)
same_field number target (f ∷ fs) a b (inr h) (inl k) = absurd (h.0 k.0)
same_field number target (f ∷ fs) a b (inr h) (inr k) = same_field (number + length (unknown_width f)) target fs a b h.1 k.1

same_place : (net : Network) (raw : RawPlace) (a b : Place) → IsPlaceOf net raw a → IsPlaceOf net raw b → a ≡ b
same_place net raw a b h k =
    let node = some_same (sym h.node ∙ k.node) in
    let side = h.side ∙ sym k.side in
    let port = h.port ∙ sym k.port in
    λ j. record { node = record { 0 = node j }; side = side j; port = port j }

module _ (net : Network) (i : Entry) where
  same_question : (ask : AskTree) (q p : Question) → Asks net i ask q → Asks net i ask p → q ≡ p
  same_question (trees.reach raw test) (reach place own) (reach other its) h k =
      let places = same_place net raw place other h.0 k.0 in
      let tests = h.1 ∙ sym k.1 in
      λ j. reach (places j) (tests j)
  same_question (trees.reach raw test) (reach place own) (invariant other field) h k = absurd k
  same_question (trees.reach raw test) (reach place own) (visible other field) h k = absurd k
  same_question (trees.reach raw test) (invariant place field) p h k = absurd h
  same_question (trees.reach raw test) (visible place field) p h k = absurd h
  same_question (trees.invariant target raw) (invariant place field) (invariant other its) h k =
      let places = same_place net raw place other h.0 k.0 in
      let fields = same_field 0 target i.own.fields field its h.2 k.2 in
      λ j. invariant (places j) (fields j)
  same_question (trees.invariant target raw) (invariant place field) (reach other own) h k = absurd k
  same_question (trees.invariant target raw) (invariant place field) (visible other its) h k = absurd k
  same_question (trees.invariant target raw) (reach place own) p h k = absurd h
  same_question (trees.invariant target raw) (visible place field) p h k = absurd h
  same_question (trees.visible target raw) (visible place field) (visible other its) h k =
      let places = same_place net raw place other h.0 k.0 in
      let fields = same_field 0 target i.own.fields field its h.1 k.1 in
      λ j. visible (places j) (fields j)
  same_question (trees.visible target raw) (visible place field) (reach other own) h k = absurd k
  same_question (trees.visible target raw) (visible place field) (invariant other its) h k = absurd k
  same_question (trees.visible target raw) (reach place own) p h k = absurd h
  same_question (trees.visible target raw) (invariant place field) p h k = absurd h

  same_questions : (asks : List AskTree) (qs ps : List Question) → AllAsk net i asks qs → AllAsk net i asks ps → qs ≡ ps
  same_questions [] [] [] h k = refl
  same_questions [] [] (p ∷ ps) h k = absurd k
  same_questions [] (q ∷ qs) ps h k = absurd h
  same_questions (ask ∷ asks) [] ps h k = absurd h
  same_questions (ask ∷ asks) (q ∷ qs) [] h k = absurd k
  same_questions (ask ∷ asks) (q ∷ qs) (p ∷ ps) h k =
      let first = same_question ask q p h.0 k.0 in
      let rest = same_questions asks qs ps h.1 k.1 in
      λ j. first j ∷ rest j

  -- ---- a question has one reply

  module _ (hops : ℕ) (rs ts : List RecordTree) (one : (q : Question) (a b : Known.Outcome) → IsRight net i hops q rs a → IsRight net i hops q ts b → a ≡ b) where
    same_reply : (q : Question) (a b : Reply) → IsReply net i hops rs q a → IsReply net i hops ts q b → a ≡ b
    same_reply q a b h k = h.is ∙ (ap (reply_of q) (one q h.outcome k.outcome h.right k.right) ∙ sym k.is)

    same_replies : (qs : List Question) (xs ys : List Reply) → AreReplies net i hops rs qs xs → AreReplies net i hops ts qs ys → xs ≡ ys
    same_replies [] [] [] h k = refl
    same_replies [] [] (b ∷ ys) h k = absurd k
    same_replies [] (a ∷ xs) ys h k = absurd h
    same_replies (q ∷ qs) [] ys h k = absurd h
    same_replies (q ∷ qs) (a ∷ xs) [] h k = absurd k
    same_replies (q ∷ qs) (a ∷ xs) (b ∷ ys) h k =
        let first = same_reply q a b h.0 k.0 in
        let rest = same_replies qs xs ys h.1 k.1 in
        λ j. first j ∷ rest j

-- ---- the outcome

module _ (hops limit : ℕ) (net : Network) (i : Entry) (asks : List AskTree) (ends : (rs qs : List RecordTree) (a b : Ending)
    → AreExactFor net i hops limit rs → AreExactFor net i hops limit qs → IsEnding a rs → IsEnding b qs → a ≡ b)
    (one : RightAnswersAreOne net i hops) where
  same_answers : (a b : Ending) (whole line : List ℕ) → IsAnswersText hops limit net i asks a whole → IsAnswersText hops limit net i asks b line
      → ◌≡◌ {A = Outcome} (text a whole) (text b line)
  same_answers a b whole line h k =
      let ending = ends h.records k.records a b h.exact k.exact h.ends k.ends in
      let questions = same_questions net i asks h.questions k.questions h.asked k.asked in
      let right = subst (λ qs. AreReplies net i hops k.records qs k.replies) (sym questions) k.right in
      let replies = same_replies net i hops h.records k.records (λ q x y g m. one limit h.records k.records h.exact k.exact q x y g m) h.questions h.replies k.replies h.right right in
      let lines = h.line ∙ (ap answers_text replies ∙ sym k.line) in
      λ j. text (ending j) (lines j)

  pub answers_once : (a b : Outcome) → AnswersOf hops limit net i asks a → AnswersOf hops limit net i asks b → a ≡ b
  answers_once (text a whole) (text b line) h k = same_answers a b whole line h k
  answers_once (text a whole) (refused fault) h k = refused_alone hops limit net i asks fault (text a whole) k h
  answers_once (refused fault) b h k = sym (refused_alone hops limit net i asks fault b h k)
