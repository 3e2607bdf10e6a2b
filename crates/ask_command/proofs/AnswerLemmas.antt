-- From what an observer with questions keeps to the answers of a job.
use Rattle.std.proofs.Common.{◌≡◌, ℕ, length, inl, inr, Bool, false, List, [], ◌∷◌, map, refl, sym, subst, arith, Ok}
use Rattle.std.specs.List.{AllByRecursion}
use Rattle.sefl_syntax.specs.Trees as trees
use Rattle.sefl_syntax.specs.Trees.{AskTree}
use Rattle.net_check.specs.Network.{Network, Entry}
use Rattle.exact_records.specs.Packets.{AreExactFor}
use Rattle.exact_records.specs.Records.{RecordTree}
use Rattle.path_exec.specs.declared.exploration.Ended.{Ended}
use Rattle.path_exec.specs.declared.exploration.Ended.TheVariants as ended
use Rattle.path_exec.specs.Handing.{Handed}
use Rattle.path_exec.specs.Receiving.{Receiving}
use Rattle.symbolic_engine.specs.declared.found.Found as seen
use Rattle.symbolic_engine.specs.Exploring.{ObservedFor}
use Rattle.symbolic_engine.specs.Finds.{handed_tree}
use Rattle.path_questions.specs.Laws.{IsOfInjection, KeptIsRight}
use Rattle.path_questions.specs.Placing.{Asks}
use Rattle.path_questions.specs.Questions.{Question, reach, invariant, visible}
use Rattle.path_questions.specs.declared.kept.Kept.{Kept}
use Rattle.path_questions.specs.declared.kept.Kept.TheVariants.{Found, LeftOpen}
use Rattle.path_questions.specs.declared.placing.AskFault.{AskFault}
use Rattle.path_questions.specs.declared.placing.AskFault.TheVariants.{NoPlace, NoField, NoMemory}
use Rattle.path_questions.specs.declared.question.Question as code
use Rattle.path_questions.specs.declared.subject.Subject.{Subject}
use Rattle.path_questions.specs.Asked.{AreAsked, AsksSome, IsBadAsk, question_seen}
use Rattle.path_questions.specs.Known.{IsNothing, outcome_seen}
use Rattle.queries.specs.Answers.{AreReplies, replies_of}
use Rattle.queries.specs.Holding.{AreKept, AreOwn, IsAskingOf}
use Rattle.ask_command.specs.Answering.{AreAnswers, ending_of, refused_by}
use Rattle.ask_command.specs.Asks.{AllAsk, IsAskRefusal}

module _ (net : Network) (i : Entry) where
  own_one : (ask : AskTree) (q : Question) → Asks net i ask q → IsOfInjection net i q
  own_one (trees.reach raw test) (reach place own) h = tt
  own_one (trees.reach raw test) (invariant place field) h = absurd h
  own_one (trees.reach raw test) (visible place field) h = absurd h
  own_one (trees.invariant target raw) (reach place own) h = absurd h
  own_one (trees.invariant target raw) (invariant place field) h = (target, h.2)
  own_one (trees.invariant target raw) (visible place field) h = absurd h
  own_one (trees.visible target raw) (reach place own) h = absurd h
  own_one (trees.visible target raw) (invariant place field) h = absurd h
  own_one (trees.visible target raw) (visible place field) h = (target, h.1)

  -- the fields of questions that words ask are injected
  pub own_of : (asks : List AskTree) (qs : List code.Question) → AreAsked net i asks qs → AreOwn net i qs
  own_of [] [] h = tt
  own_of [] (q ∷ qs) h = absurd h
  own_of (ask ∷ asks) [] h = absurd h
  own_of (ask ∷ asks) (q ∷ qs) h = (own_one ask (question_seen q) h.0, own_of asks qs h.1)

  pub asked_all : (asks : List AskTree) (qs : List code.Question) → AreAsked net i asks qs → AllAsk net i asks (map question_seen qs)
  asked_all [] [] h = tt
  asked_all [] (q ∷ qs) h = absurd h
  asked_all (ask ∷ asks) [] h = absurd h
  asked_all (ask ∷ asks) (q ∷ qs) h = (h.0, asked_all asks qs h.1)

  gathered : (asks : List AskTree) → AllByRecursion (AsksSome net i) asks → (qs : List Question) × AllAsk net i asks qs
  gathered [] h = ([], tt)
  gathered (ask ∷ asks) h = let more = gathered asks h.1 in (h.0.0 ∷ more.0, (h.0.1, more.1))

  -- the first words that ask no question are refused
  pub bad_ask : (asks : List AskTree) (number : ℕ) (fault : AskFault) → IsBadAsk net i asks number fault → IsAskRefusal net i asks (refused_by number fault)
  bad_ask asks number NoPlace h =
      let good = gathered h.front h.good in
      record {
        front = h.front;
        bad = h.bad;
        rest = h.rest;
        is = h.is;
        numbered = h.numbered;
        questions = good.0;
        good = good.1;
        fault = inl (refl, h.fault_is);
      }
  bad_ask asks number NoField h =
      let good = gathered h.front h.good in
      record {
        front = h.front;
        bad = h.bad;
        rest = h.rest;
        is = h.is;
        numbered = h.numbered;
        questions = good.0;
        good = good.1;
        fault = inr (refl, h.fault_is.0, h.fault_is.1);
      }
  bad_ask asks number NoMemory h = tt

module _ (net : Network) (i : Entry) (hops limit : ℕ) (laws : KeptIsRight net i hops) where
  replies_right : (rs : List RecordTree) → AreExactFor net i hops limit rs → (qs : List code.Question) (ks : List Kept)
      → AreKept net i hops rs qs ks → AreReplies net i hops rs (map question_seen qs) (replies_of qs ks)
  replies_right rs exact [] [] h = tt
  replies_right rs exact [] (k ∷ ks) h = absurd h
  replies_right rs exact (q ∷ qs) [] h = absurd h
  replies_right rs exact (q ∷ qs) (k ∷ ks) h = (
    record { outcome = outcome_seen k; right = laws limit rs (question_seen q) (outcome_seen k) exact h.0; is = refl },
    replies_right rs exact qs ks h.1,
  )

  -- an exploration shown to an observer with questions that did not fail
  pub answers_found : (E : Type 0) (qs : List code.Question) (m : Receiving (Handed seen.Found)) (subject : Subject) (questions : List code.Question) (kept : List Kept) (count : ℕ) (failed : Bool)
      → ((items : List (Handed seen.Found)) → m.StandsFor items → IsAskingOf net i hops qs subject questions kept count failed (map handed_tree items))
      → failed ≡ false → m.stops ≡ 0 → (before after : ℕ) (how : Ended) → ObservedFor net i hops {E = E} limit 0 m before after (Ok how)
      → AreAnswers hops limit net i qs (ending_of how) (replies_of questions kept)
  answers_found E qs m subject questions kept count failed stands fine none before after ended.Whole h =
      let s = stands h.items h.stands in
      subst (λ xs. AreAnswers hops limit net i qs (ending_of ended.Whole) (replies_of xs kept)) (sym s.questions_are) (record {
        records = map handed_tree h.items;
        exact = h.exact;
        ends = h.tried;
        right = replies_right (map handed_tree h.items) h.exact qs kept (s.tells fine);
      })
  answers_found E qs m subject questions kept count failed stands fine none before after ended.Partial h =
      let s = stands h.items h.stands in
      subst (λ xs. AreAnswers hops limit net i qs (ending_of ended.Partial) (replies_of xs kept)) (sym s.questions_are) (record {
        records = map handed_tree h.items;
        exact = h.exact;
        ends = h.untried;
        right = replies_right (map handed_tree h.items) h.exact qs kept (s.tells fine);
      })
  answers_found E qs m subject questions kept count failed stands fine none before after ended.Stopped h =
      let bad : ⊥ = (let c = h.cause in omega (arith, c, none)) in absurd bad

-- before the first record nothing is kept
pub nothing_is : (net : Network) (i : Entry) (hops : ℕ) (qs : List code.Question) (ks : List Kept) → length qs ≡ length ks → AllByRecursion IsNothing ks → AreKept net i hops [] qs ks
nothing_is net i hops [] [] e h = tt
nothing_is net i hops [] (k ∷ ks) e h = absurd (omega (arith, e))
nothing_is net i hops (q ∷ qs) [] e h = absurd (omega (arith, e))
nothing_is net i hops (q ∷ qs) (Found number values ∷ ks) e h = absurd h.0
nothing_is net i hops (q ∷ qs) (LeftOpen numbers ∷ ks) e h = ((tt, h.0), nothing_is net i hops qs ks (omega (arith, e)) h.1)

-- the same of an exploration of the net, the injection and the hops that are asked about
pub answers_of_own : (E : Type 0) (net own : Network) (i its : Entry) (hops h limit : ℕ) → KeptIsRight net i hops → own ≡ net → its ≡ i → h ≡ hops
    → (qs : List code.Question) (m : Receiving (Handed seen.Found)) (subject : Subject) (questions : List code.Question) (kept : List Kept) (count : ℕ) (failed : Bool)
    → ((items : List (Handed seen.Found)) → m.StandsFor items → IsAskingOf net i hops qs subject questions kept count failed (map handed_tree items))
    → failed ≡ false → m.stops ≡ 0 → (before after : ℕ) (how : Ended) → ObservedFor own its h {E = E} limit 0 m before after (Ok how)
    → AreAnswers hops limit net i qs (ending_of how) (replies_of questions kept)
answers_of_own E net own i its hops h limit laws a b e qs m subject questions kept count failed stands fine none before after how explored =
    answers_found net i hops limit laws E qs m subject questions kept count failed stands fine none before after how
    (subst (λ (k : ℕ). ObservedFor net i k {E = E} limit 0 m before after (Ok how)) e
    (subst (λ (x : Entry). ObservedFor net x h {E = E} limit 0 m before after (Ok how)) b
    (subst (λ (n : Network). ObservedFor n its h {E = E} limit 0 m before after (Ok how)) a explored)))
