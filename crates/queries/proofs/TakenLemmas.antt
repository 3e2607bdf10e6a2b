-- Records that are taken for all questions.
use Rattle.std.proofs.Common.{◌≡◌, ◌∙◌, ℕ, ◌+◌, Bool, false, List, [], ◌∷◌, ◌++◌, length, map, sym, ap, subst}
use Rattle.std.proofs.lemmas.List.{map-append}
use Rattle.net_check.specs.Network.{Network, Entry}
use Rattle.net_check.specs.Sound.{AreOfOneJob}
use Rattle.exact_records.specs.Records.{RecordTree}
use Rattle.path_exec.specs.Handing.{Handed}
use Rattle.symbolic_engine.specs.declared.found.Found.{Found}
use Rattle.symbolic_engine.specs.Exploring.{IsHandedBy}
use Rattle.symbolic_engine.specs.Finds.{handed_tree}
use Rattle.path_questions.specs.Deciding.{entry_of, net_of}
use Rattle.path_questions.specs.declared.kept.Kept.{Kept}
use Rattle.path_questions.specs.declared.question.Question.{Question}
use Rattle.path_questions.specs.declared.subject.Subject.{Subject}
use Rattle.queries.specs.Holding.{AreKept, AreOwn, IsAskingOf, IsReady, IsSameAsking}
use Rattle.queries.specs.Judged.{IsSeenOf}
use Rattle.queries.specs.declared.seen.Seen.{Seen}
use Rattle.queries.proofs.FoundLemmas.{one_longer}

module _ (net : Network) (i : Entry) (hops : ℕ) (qs : List Question) where
  -- one record more, for each question
  pub taken : (x : RecordTree) (seen : Seen) (count next : ℕ) (old new : List Kept) → next ≡ count + 1 → IsSeenOf net i hops x seen
      → ((xs : List RecordTree) (y : RecordTree) → count ≡ length xs → IsSeenOf net i hops y seen → AreKept net i hops xs qs old → AreKept net i hops (xs ++ y ∷ []) qs new)
      → (xs : List RecordTree) → count ≡ length xs → AreKept net i hops xs qs old
      → (next ≡ length (xs ++ x ∷ [])) × AreKept net i hops (xs ++ x ∷ []) qs new
  taken x seen count next old new h s f xs e k = (one_longer xs x count next e h, f xs x e s k)

  -- what is kept of a subject and questions that are these
  here : (n : Network) (e : Entry) (k : ℕ) (asked : List Question) (xs : List RecordTree) (ks : List Kept) → n ≡ net → e ≡ i → k ≡ hops → asked ≡ qs
      → AreKept net i hops xs qs ks → AreKept n e k xs asked ks
  here n e k asked xs ks a b c d h =
      subst (λ m. AreKept m e k xs asked ks) (sym a)
      (subst (λ m. AreKept net m k xs asked ks) (sym b)
      (subst (λ m. AreKept net i m xs asked ks) (sym c)
      (subst (λ m. AreKept net i hops xs m ks) (sym d) h)))

  there : (n : Network) (e : Entry) (k : ℕ) (asked : List Question) (xs : List RecordTree) (ks : List Kept) → n ≡ net → e ≡ i → k ≡ hops → asked ≡ qs
      → AreKept n e k xs asked ks → AreKept net i hops xs qs ks
  there n e k asked xs ks a b c d h =
      subst (λ m. AreKept m i hops xs qs ks) a
      (subst (λ m. AreKept n m hops xs qs ks) b
      (subst (λ m. AreKept n e m xs qs ks) c
      (subst (λ m. AreKept n e k xs m ks) d h)))

  module _ (before after : Subject) (asked now : List Question) (failed still : Bool) (same : IsSameAsking before after asked now failed still) where
    pub ready_still : (old new : List Kept) → length new ≡ length old → IsReady before asked old → IsReady after now new
    ready_still old new e h = record {
      job = subst (λ (s : Subject). AreOfOneJob (net_of s) (entry_of s)) (sym same.subject) h.job;
      own = subst (λ (s : Subject). AreOwn (net_of s) (entry_of s) now) (sym same.subject)
          (subst (AreOwn (net_of before) (entry_of before)) (sym same.questions) h.own);
      one_each = ap length same.questions ∙ (h.one_each ∙ sym e);
    }

    pub handed_still : (item : Handed Found) → IsHandedBy (net_of before) (entry_of before) before.hops item → IsHandedBy (net_of after) (entry_of after) after.hops item
    handed_still item h = subst (λ (s : Subject). IsHandedBy (net_of s) (entry_of s) s.hops item) (sym same.subject) h

    -- what is found behind decisions is one record more
    pub stands_more : (item : Handed Found) (old new : List Kept) (count next : ℕ) → failed ≡ false
        → ((xs : List RecordTree) → count ≡ length xs → AreKept (net_of before) (entry_of before) before.hops xs asked old
        → (next ≡ length (xs ++ handed_tree item ∷ [])) × AreKept (net_of before) (entry_of before) before.hops (xs ++ handed_tree item ∷ []) asked new)
        → (items : List (Handed Found)) → IsAskingOf net i hops qs before asked old count failed (map handed_tree items)
        → IsAskingOf net i hops qs after now new next still (map handed_tree (items ++ item ∷ []))
    stands_more item old new count next off f items h =
        let xs = map handed_tree items in
        let k = f xs (h.counted off) (here (net_of before) (entry_of before) before.hops asked xs old h.net_is h.entry_is h.hops_is h.questions_are (h.tells off)) in
        subst (IsAskingOf net i hops qs after now new next still) (sym (map-append handed_tree items (item ∷ []))) (record {
          net_is = ap net_of same.subject ∙ h.net_is;
          entry_is = ap entry_of same.subject ∙ h.entry_is;
          hops_is = ap (λ (s : Subject). s.hops) same.subject ∙ h.hops_is;
          questions_are = same.questions ∙ h.questions_are;
          counted = λ on. k.0;
          tells = λ on. there (net_of before) (entry_of before) before.hops asked (xs ++ handed_tree item ∷ []) new h.net_is h.entry_is h.hops_is h.questions_are k.1;
        })

    -- where memory ended, nothing is owed
    pub stands_failed : (old new : List Kept) (count next : ℕ) (xs : List RecordTree) → IsAskingOf net i hops qs before asked old count failed xs
        → (ended : Bool) → (ended ≡ false → ⊥) → IsAskingOf net i hops qs after now new next ended xs
    stands_failed old new count next xs h ended never = record {
      net_is = ap net_of same.subject ∙ h.net_is;
      entry_is = ap entry_of same.subject ∙ h.entry_is;
      hops_is = ap (λ (s : Subject). s.hops) same.subject ∙ h.hops_is;
      questions_are = same.questions ∙ h.questions_are;
      counted = λ on. absurd (never on);
      tells = λ on. absurd (never on);
    }
