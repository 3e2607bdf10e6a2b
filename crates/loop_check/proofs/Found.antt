-- What is found of records is right.
use Rattle.std.proofs.Common.{◌≡◌, ◌+◌, ℕ, suc, inl, inr, List, [], ◌∷◌, ◌++◌, length, map, reverse, refl, sym, ap, subst, ◌∙◌, arith, Option, None, Some, Result, IfOk}
use Rattle.std.proofs.lemmas.List.{append-nil, map-append}
use Rattle.std.specs.List.{AllByRecursion}
use Rattle.std.specs.declared.alloc.Global.{Global}
use Rattle.std.specs.declared.rc.Rc.{Rc}
use Rattle.std.specs.declared.vec.Vec.{Vec}
use Rattle.refutation_check.specs.declared.outcome.Verdict.{Verdict}
use Rattle.sefl_meaning.specs.declared.walk.Decision.{Decision}
use Rattle.sefl_meaning.specs.declared.walk.End.{End}
use Rattle.sefl_meaning.specs.declared.walk.End.TheVariants.{Cut}
use Rattle.sefl_meaning.specs.declared.walk.Place.{Place}
use Rattle.sefl_meaning.specs.Network.{Network, Entry}
use Rattle.path_questions.specs.Deciding.{entry_of, net_of}
use Rattle.path_questions.specs.declared.subject.Subject.{Subject}
use Rattle.path_records.specs.declared.records.Fields.{Fields}
use Rattle.path_records.specs.declared.records.Record.{Record}
use Rattle.path_records.specs.declared.records.Record.TheVariants.{Path}
use Rattle.exact_records.specs.Exact.{IsGood}
use Rattle.exact_records.specs.Packets.{AreExactFor, IsExplored}
use Rattle.exact_records.specs.Records.{HasMeaning, RecordTree, SymRoute, SymStart, condition_on, decisions_of, path, pruned, unexplored}
use Rattle.exact_records.specs.View.{record_tree}
use Rattle.sym_state.specs.Symbolic.{Symbolic}
use Rattle.path_exec.specs.Handing.{Handed}
use Rattle.symbolic_engine.specs.declared.found.Found.{Found}
use Rattle.symbolic_engine.specs.declared.found.Found.TheVariants as seen
use Rattle.symbolic_engine.specs.Finds.{found_tree, handed_tree}
use Rattle.sefl_meaning.specs.Routes.{places_on}
use Rattle.loop_meaning.specs.declared.answer.LoopAnswer.{LoopAnswer}
use Rattle.loop_meaning.specs.declared.answer.LoopAnswer.TheVariants.{Loop, Open}
use Rattle.loop_meaning.specs.Answers.{CutPath, IsAnswerOf, IsAnswerOn}
use Rattle.loop_meaning.specs.Loops.{IsRight, IsTrueOf, LoopsAreForEver}
use Rattle.loop_check.specs.Finding.{AnswersFor, AreFound, AreRight, IsAnswerTo, IsCut, IsCutPath, IsCutRecord, IsFindingOf, SaysIfCut, numbered}
use Rattle.loop_check.proofs.Seeing.{if_ok}

some_same : {A : Type 0} {x y : A} → Some x ≡ Some y → x ≡ y
some_same e = cc e

-- ---- one record

module _ (net : Network) (i : Entry) (hops : ℕ) (loops : LoopsAreForEver net i hops) where
  true_of : (start : SymStart) → IsExplored net i hops start → (ds : List Decision) (answer : LoopAnswer) (p : CutPath start ds)
      → IsAnswerOn (condition_on start p.way) p.last p.earlier answer → IsTrueOf net i hops ds answer
  true_of start is ds (Loop first) p h = (loops start is ds p first h).for_ever
  true_of start is ds (Open differs) p h = tt

  -- an answer that is right where the path of its decisions is cut
  right_by : (start : SymStart) → IsExplored net i hops start → (ds : List Decision) (answer : LoopAnswer) → IsAnswerOf start ds answer → IsRight net i hops ds answer
  right_by start is ds answer told = record {
    start = start;
    explored = is;
    told = told;
    holds = λ p. true_of start is ds answer p (told p);
  }

  -- the answer to a record that has its own meaning is right
  pub right_of : (x : RecordTree) (start : SymStart) → IsExplored net i hops start → HasMeaning start x → IsCutRecord x → (answer : LoopAnswer)
      → IsAnswerTo net i hops x answer → IsRight net i hops (decisions_of x) answer
  right_of (path ds places end' fields verdict) start is meaning cut answer h =
      right_by start is ds answer (λ p. h start is p
      (ap (λ (w : SymRoute). places_on w) (some_same (sym p.leads ∙ meaning.leads)) ∙ meaning.places_are))
  right_of (pruned ds before refutation) start is meaning cut answer h = absurd cut
  right_of (unexplored ds) start is meaning cut answer h = absurd cut

  -- ---- all records

  all_right : (start : SymStart) → IsExplored net i hops start → (number : ℕ) (xs : List RecordTree) (found : List (ℕ × LoopAnswer)) → AllByRecursion (IsGood start) xs
      → AreFound (IsAnswerTo net i hops) number xs found → AreRight net i hops number xs found
  all_right start is number [] found good h = h
  all_right start is number (x ∷ xs) found good (inl h) =
      inl (record {
        cut = h.cut;
        answer = h.answer;
        rest = h.rest;
        is = h.is;
        so = right_of x start is good.0.meaning h.cut h.answer h.so;
        others = all_right start is (suc number) xs h.rest good.1 h.others;
      })
  all_right start is number (x ∷ xs) found good (inr h) = inr (h.0, all_right start is (suc number) xs found good.1 h.1)

  pub found_right : (limit : ℕ) (records : List RecordTree) (found : List (ℕ × LoopAnswer)) → AreExactFor net i hops limit records
      → AreFound (IsAnswerTo net i hops) 0 records found → AreRight net i hops 0 records found
  found_right limit records found exact h = all_right exact.start exact.explored 0 records found exact.exact.good h

-- ---- one record more

module _ (Is : RecordTree → LoopAnswer → Type 0) where
  with_one : (n : ℕ) (xs : List RecordTree) (x : RecordTree) (found : List (ℕ × LoopAnswer)) (answer : LoopAnswer) → AreFound Is n xs found → IsCutRecord x → Is x answer
      → AreFound Is n (xs ++ x ∷ []) (found ++ (n + length xs, answer) ∷ [])
  with_one n [] x found answer h cut is =
      let same : n + 0 ≡ n = omega arith in
      inl (record {
        cut = cut;
        answer = answer;
        rest = [];
        is = ap (λ (fs : List (ℕ × LoopAnswer)). fs ++ (n + 0, answer) ∷ []) h ∙ ap (λ (m : ℕ). (m, answer) ∷ []) same;
        so = is;
        others = refl;
      })
  with_one n (y ∷ xs) x found answer (inl h) cut is =
      let same : suc n + length xs ≡ n + suc (length xs) = omega arith in
      inl (record {
        cut = h.cut;
        answer = h.answer;
        rest = h.rest ++ (n + suc (length xs), answer) ∷ [];
        is = ap (λ (fs : List (ℕ × LoopAnswer)). fs ++ (n + suc (length xs), answer) ∷ []) h.is;
        so = h.so;
        others = subst (λ (m : ℕ). AreFound Is (suc n) (xs ++ x ∷ []) (h.rest ++ (m, answer) ∷ [])) same (with_one (suc n) xs x h.rest answer h.others cut is);
      })
  with_one n (y ∷ xs) x found answer (inr h) cut is =
      let same : suc n + length xs ≡ n + suc (length xs) = omega arith in
      inr (h.0, subst (λ (m : ℕ). AreFound Is (suc n) (xs ++ x ∷ []) (found ++ (m, answer) ∷ [])) same (with_one (suc n) xs x found answer h.1 cut is))

  with_none : (n : ℕ) (xs : List RecordTree) (x : RecordTree) (found : List (ℕ × LoopAnswer)) → AreFound Is n xs found → (IsCutRecord x → ⊥)
      → AreFound Is n (xs ++ x ∷ []) found
  with_none n [] x found h not = inr (not, h)
  with_none n (y ∷ xs) x found (inl h) not =
      inl (record {
        cut = h.cut;
        answer = h.answer;
        rest = h.rest;
        is = h.is;
        so = h.so;
        others = with_none (suc n) xs x h.rest h.others not;
      })
  with_none n (y ∷ xs) x found (inr h) not = inr (h.0, with_none (suc n) xs x found h.1 not)

module _ (net : Network) (i : Entry) (hops : ℕ) where
  abbrev Finds : List RecordTree → List (ℕ × LoopAnswer) → Type 0
  Finds xs found = AreFound (IsAnswerTo net i hops) 0 xs found

  -- a record more
  pub found_with : (xs : List RecordTree) (x : RecordTree) (count : ℕ) (found : List (ℕ × LoopAnswer)) (answer : Option LoopAnswer) → count ≡ length xs → Finds xs found
      → SaysIfCut net i hops x answer → Finds (xs ++ x ∷ []) (found ++ numbered count answer)
  found_with xs x count found None e h says =
      subst (Finds (xs ++ x ∷ [])) (sym (append-nil found)) (with_none (IsAnswerTo net i hops) 0 xs x found h says)
  found_with xs x count found (Some answer) e h says =
      let same : 0 + length xs ≡ count = omega (arith, e) in
      subst (λ m. Finds (xs ++ x ∷ []) (found ++ (m, answer) ∷ [])) same (with_one (IsAnswerTo net i hops) 0 xs x found answer h says.0 says.1)

-- ---- records of the program

module _ (net : Network) (i : Entry) (hops : ℕ) where
  path_answer : (item : Record) (ds : Vec Decision Global) (ps : Vec Place Global) (end' : End) (fields : Fields) (verdict : Verdict) → item ≡ Path ds ps end' fields verdict
      → (xs : List Decision) (ys : List Place) → xs ≡ ds.items → ys ≡ ps.items → (answer : LoopAnswer) → AnswersFor net i hops xs ys answer
      → IsAnswerTo net i hops (record_tree item) answer
  path_answer item ds ps end' fields verdict is xs ys e k answer h =
      subst (λ (x : Record). IsAnswerTo net i hops (record_tree x) answer) (sym is)
      (subst (λ (zs : List Decision). AnswersFor net i hops zs ps.items answer) e
      (subst (λ (zs : List Place). AnswersFor net i hops xs zs answer) k h))

  -- of a path that is cut
  pub cut_answer : (found : Found) (state : Symbolic) (how : End) (verdict : Rc Verdict Global) → found ≡ seen.Path state how verdict → how ≡ Cut
      → (ds : List Decision) (ps : List Place) → ps ≡ reverse state.places → (answer : LoopAnswer) → AnswersFor net i hops ds ps answer
      → IsCutRecord (found_tree found ds) × IsAnswerTo net i hops (found_tree found ds) answer
  cut_answer found state how verdict is cut ds ps e answer h =
      subst (λ (x : Found). IsCutRecord (found_tree x ds) × IsAnswerTo net i hops (found_tree x ds) answer) (sym is)
      (subst IsCut (sym cut) tt, subst (λ (zs : List Place). AnswersFor net i hops ds zs answer) e h)

  pub loop_right : {E : Type 0} (loops : LoopsAreForEver net i hops) (item : Record) (ds : Vec Decision Global) (ps : Vec Place Global) (end' : End) (fields : Fields) (verdict : Verdict)
      → item ≡ Path ds ps end' fields verdict → IsCutPath net i hops (record_tree item) → (xs : List Decision) (ys : List Place) → xs ≡ ds.items → ys ≡ ps.items
      → (r : Result LoopAnswer E) → IfOk r (AnswersFor net i hops xs ys) → IfOk r (IsRight net i hops (decisions_of (record_tree item)))
  loop_right loops item ds ps end' fields verdict is cut xs ys e k r h =
      if_ok (AnswersFor net i hops xs ys) (IsRight net i hops (decisions_of (record_tree item))) r
      (λ answer found. right_of net i hops loops (record_tree item) cut.start cut.explored cut.meaning cut.cut answer
      (path_answer item ds ps end' fields verdict is xs ys e k answer found)) h

  -- what is found behind decisions is one record more, of a subject that is the same
  pub found_more : (before after : Subject) (old new : List (ℕ × LoopAnswer)) (count next : ℕ) (item : Handed Found) → after ≡ before
      → ((xs : List RecordTree) → count ≡ length xs → Finds (net_of before) (entry_of before) before.hops xs old
      → (next ≡ length (xs ++ handed_tree item ∷ [])) × Finds (net_of before) (entry_of before) before.hops (xs ++ handed_tree item ∷ []) new)
      → (items : List (Handed Found)) → IsFindingOf net i hops before old count (map handed_tree items)
      → IsFindingOf net i hops after new next (map handed_tree (items ++ item ∷ []))
  found_more before after old new count next item same keeps items h =
      let xs = map handed_tree items in
      let more = xs ++ handed_tree item ∷ [] in
      let here : Finds (net_of before) (entry_of before) before.hops xs old =
      subst (λ (n : Network). Finds n (entry_of before) before.hops xs old) (sym h.net_is)
      (subst (λ (e : Entry). Finds net e before.hops xs old) (sym h.entry_is)
      (subst (λ (k : ℕ). Finds net i k xs old) (sym h.hops_is) h.finds)) in
      let next_one = keeps xs h.counted here in
      subst (IsFindingOf net i hops after new next) (sym (map-append handed_tree items (item ∷ []))) (record {
        net_is = ap net_of same ∙ h.net_is;
        entry_is = ap entry_of same ∙ h.entry_is;
        hops_is = ap (λ (s : Subject). s.hops) same ∙ h.hops_is;
        counted = next_one.0;
        finds =
            subst (λ (n : Network). Finds n i hops more new) h.net_is
            (subst (λ (e : Entry). Finds (net_of before) e hops more new) h.entry_is
            (subst (λ (k : ℕ). Finds (net_of before) (entry_of before) k more new) h.hops_is next_one.1));
      })
