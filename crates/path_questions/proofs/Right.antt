-- Over exact records, what is kept of a question is right.
use Rattle.std.proofs.Common.{◌≡◌, ℕ, suc, inl, inr, Bool, true, false, not, ◌==◌, true≢false, List, [], ◌∷◌, ◌++◌, length, map, refl, sym, ap, subst, ◌∙◌, Some, Result, Ok, Err, arith}
use Rattle.std.proofs.lemmas.Bool.Decides.{nat_tests}
use Rattle.std.proofs.lemmas.Map.Views.{exact_unsigned_eq}
use Rattle.std.specs.List.{AllByRecursion}
use Rattle.sn_width.specs.declared.faults.LayoutFault.{LayoutFault}
use Rattle.lin_term.specs.Terms.{LinearTerm}
use Rattle.path_formula.specs.Typed.{AreValues}
use Rattle.path_cond.specs.Seen.{entry_holds, itself}
use Rattle.refutation_check.specs.Seen.{IsMetBy}
use Rattle.refutation_check.specs.declared.outcome.Verdict.{Verdict}
use Rattle.cell_stacks.specs.Outcome.{on_ok}
use Rattle.sefl_meaning.specs.declared.walk.Decision.{Decision}
use Rattle.sefl_meaning.specs.declared.walk.End.{End}
use Rattle.sefl_meaning.specs.declared.walk.Place.{Place}
use Rattle.sefl_meaning.specs.Values.{numbers}
use Rattle.sefl_meaning.specs.Network.{Network, Entry}
use Rattle.sefl_meaning.specs.Carried.{Carried, carried_valued}
use Rattle.sefl_meaning.specs.Fields.{Fields}
use Rattle.sefl_meaning.specs.Injected.{FitWidths, passages_from, unknown_count}
use Rattle.sefl_meaning.specs.Order.{BeginsWith}
use Rattle.sefl_meaning.specs.Routes.{route}
use Rattle.sefl_meaning.specs.Start.{progress_of, tests_on}
use Rattle.sefl_meaning.specs.Valued.{CarriedFits}
use Rattle.sefl_meaning.specs.Walks.{Trail}
use Rattle.term_values.specs.Fits.{term_fits}
use Rattle.exact_records.specs.Exact.{AreExact, IsGood, IsNoOtherPath, IsShownOnce, SomeOne}
use Rattle.exact_records.specs.Packets.{AreExactFor, IsAlong, IsExplored}
use Rattle.exact_records.specs.Records.{HasMeaning, IsPath, Leads, RecordTree, SymCondition, SymRoute, SymStart, Takes, decisions_of, path, pruned, unexplored}
use Rattle.path_questions.specs.Answers.{IsRight, IsTrueOf}
use Rattle.path_questions.specs.Below.{Below, term_at, truth_of}
use Rattle.path_questions.specs.Formulas.{asked_left, asked_on, condition_with, conditions_on, explored, formula_at, formula_of, held_or, no_start, start_or}
use Rattle.path_questions.specs.Questions.{Question, reach, invariant, visible, asked}
use Rattle.path_questions.specs.Sentences.{NotShown, Sentence, Shown, ShowsIt, Walked, asked_of}
use Rattle.path_questions.specs.Telling.{AreOpenBy, FirstMet, HasRefutation, IsKept, IsOutcome, LeavesItOpen, Outcome, RulesItOut, Saying, ShowsHit, found, left_open, saying}
use Rattle.path_questions.proofs.Commuting.{asked_valued, formula_valued}
use Rattle.path_questions.proofs.Lists.{all_both, all_later, all_mapped, all_weaker, mapped_all, mapped_some, one_some, pass_first, pass_last, pass_with, some_any, some_both, some_mapped, some_not, some_weaker}
use Rattle.path_questions.proofs.Typing.{asked_fits}

-- ---- in numbers a formula says what the sentence does

same_number : (n : ℕ) → (n == n) ≡ true
same_number n = grind (arith, nat_tests)

equal_of : (a b : ℕ) (x : Bool) → (a == b) ≡ x → not x ≡ false → a ≡ b
equal_of a b true e k = exact_unsigned_eq a b e
equal_of a b false e k = absurd (true≢false k)

equal_here : (a b : ℕ) → a ≡ b → (a == b) ≡ true
equal_here a b e = ap (λ c. a == c) (sym e) ∙ same_number a

same_equal : (a b : ℕ) → a ≡ b → not (a == b) ≡ true → ⊥
same_equal a b e k = true≢false (sym k ∙ ap not (equal_here a b e))

true_or : (r : Result Bool LayoutFault) → held_or false r ≡ true → r ≡ Ok true
true_or (Ok x) e = ap Ok e
true_or (Err fault) e = absurd (true≢false (sym e))

reads_so : (b : ℕ) (r : Result ℕ LayoutFault) → held_or true (on_ok (λ a. not (a == b)) r) ≡ false → r ≡ Ok b
reads_so b (Ok a) e = ap Ok (equal_of a b (a == b) refl e)
reads_so b (Err fault) e = absurd (true≢false e)

reads_other : (b : ℕ) (r : Result ℕ LayoutFault) → held_or true (on_ok (λ a. not (a == b)) r) ≡ true → r ≡ Ok b → ⊥
reads_other b (Ok a) e k = same_equal a b (let same : a ≡ b = cc in same) e
reads_other b (Err fault) e k = let bad : Err fault ≡ Ok b = k in cc

false_of : (b : Bool) → (b ≡ true → ⊥) → b ≡ false
false_of true h = absurd (h refl)
false_of false h = refl

module _ (net : Network) (i : Entry) (hops : ℕ) where
  abbrev number_formula : List ℕ → Question → Carried ℕ → Bool
  number_formula v q = formula_at (numbers v (unknown_count i)) net q

  shows_it : (q : Question) (x : Walked net i hops) → SomeOne (λ a. number_formula x.packet q a ≡ true) (asked_of net i hops q x) → ShowsIt net i hops q x
  shows_it (reach place test) x h = some_weaker _ _ (asked_of net i hops (reach place test) x) (λ a e. true_or _ e) h
  shows_it (invariant place field) x h = some_weaker _ _ (asked_of net i hops (invariant place field) x) (λ a e. reads_other _ _ e) h
  shows_it (visible place field) x h = some_weaker _ _ (asked_of net i hops (visible place field) x) (λ a e. reads_other _ _ e) h

  shown_so : (q : Question) (x : Walked net i hops) → ShowsIt net i hops q x → Shown net i hops q
  shown_so (reach place test) x h = (x, h)
  shown_so (invariant place field) x h = λ all. some_not _ _ (asked_of net i hops (invariant place field) x) (λ a f e. f e) h (all x)
  shown_so (visible place field) x h = λ all. some_not _ _ (asked_of net i hops (visible place field) x) (λ a f e. f e) h (all x)

  not_shown : (q : Question) → ((x : Walked net i hops) → AllByRecursion (λ a. number_formula x.packet q a ≡ true → ⊥) (asked_of net i hops q x)) → NotShown net i hops q
  not_shown (reach place test) h = λ (said : Sentence net i hops (reach place test)).
      some_not _ _ (asked_of net i hops (reach place test) said.0) (λ a e n. n (ap (held_or false) e)) said.1 (h said.0)
  not_shown (invariant place field) h = λ x. all_weaker _ _ (asked_of net i hops (invariant place field) x) (λ a n. reads_so _ _ (false_of _ n)) (h x)
  not_shown (visible place field) h = λ x. all_weaker _ _ (asked_of net i hops (visible place field) x) (λ a n. reads_so _ _ (false_of _ n)) (h x)

-- ---- values that fit the front of the widths

fits_front : (us more vs : List ℕ) → AreValues (us ++ more) vs → length vs ≡ length (us ++ more) → FitWidths us vs
fits_front [] more vs h e = tt
fits_front (u ∷ us) more [] h e = let bad : 0 ≡ suc (length (us ++ more)) = e in omega (arith, bad)
fits_front (u ∷ us) more (v ∷ vs) h e =
    let rest : suc (length vs) ≡ suc (length (us ++ more)) = e in
    (h 0 u refl, fits_front us more vs (λ s w k. h (suc s) w k) (omega (arith, rest)))

some_same : {A : Type 0} {x y : A} → Some x ≡ Some y → x ≡ y
some_same e = cc e

-- ---- one start

start_is : (net : Network) (i : Entry) (hops : ℕ) (start : SymStart) → IsExplored net i hops start → start ≡ explored net i hops
start_is net i hops start is = sym (ap (start_or no_start) is)

-- ---- what records tell of a question

module _ {X : Type 0} (say : Saying X) (P Q : X → Type 0) (weaker : (x : X) → P x → Q x) where
  open_weaker : (n : ℕ) (xs : List X) (ns : List ℕ) → AreOpenBy say P n xs ns → AreOpenBy say Q n xs ns
  open_weaker n [] ns h = h
  open_weaker n (x ∷ xs) ns (inl h) = inl (h.0, h.1, h.2, open_weaker (suc n) xs h.1 h.3)
  open_weaker n (x ∷ xs) ns (inr h) = inr (weaker x h.0, open_weaker (suc n) xs ns h.1)

none_open : {X : Type 0} (say : Saying X) (n : ℕ) (xs : List X) → AreOpenBy say say.RulesOut n xs [] → AllByRecursion say.RulesOut xs
none_open say n [] h = tt
none_open say n (x ∷ xs) (inl h) = let bad : [] ≡ n ∷ h.1 = h.2 in cc
none_open say n (x ∷ xs) (inr h) = (h.0, none_open say (suc n) xs h.1)

module _ (net : Network) (i : Entry) (hops : ℕ) (below : Below net i hops) where
  abbrev start : SymStart
  start = explored net i hops

  module _ (q : Question) where
    closed_where_out : (x : RecordTree) → RulesItOut net i hops q x → LeavesItOpen net i hops q x → ⊥
    closed_where_out (path ds places end' fields verdict) h k =
        some_not _ _ (conditions_on net i hops q k.0)
        (λ c some refuted. below.verdicts.not_undecided c some.0 refuted.0 some.1) k.2 (h k.0 k.1)
    closed_where_out (pruned ds before refutation) h k = k
    closed_where_out (unexplored ds) h k = h

    outcome_told : (rs : List RecordTree) (outcome : Outcome) → IsKept (saying net i hops q) rs outcome → IsOutcome (saying net i hops q) rs outcome
    outcome_told rs (found number values) h = h
    outcome_told rs (left_open ns) h =
        (h.0, open_weaker (saying net i hops q) (RulesItOut net i hops q) (λ x. LeavesItOpen net i hops q x → ⊥) closed_where_out 0 rs ns h.1)

    module _ (is : IsExplored net i hops start) where
      abbrev along : (x : Walked net i hops) → IsAlong start x.packet x.walk
      along x = below.passages start is x.packet x.carried x.starts x.walk x.is

      -- the states of a walk are, at its packet, those of its route
      bridge : (x : Walked net i hops) → asked_of net i hops q x ≡ map (carried_valued (term_at x.packet)) (asked_on q (along x).takes.way)
      bridge x =
          let a = along x in
          (λ j. asked q (sym a.arrivals j) (sym a.ended j) (sym a.progress j))
          ∙ (asked_valued (term_at x.packet) q a.takes.way.arrivals a.takes.end' a.takes.progress
          ∙ ap (map (carried_valued (term_at x.packet))) (ap (asked_left q a.takes.way.arrivals) (sym a.takes.ended)))

      fitting : (ds : List Decision) (way : SymRoute) → Leads start ds way → AllByRecursion (CarriedFits term_fits) (asked_on q way)
      fitting ds way leads = asked_fits i below.typing net hops start is q ds way leads

      -- a formula that is true there contradicts a refutation
      not_held : (v : List ℕ) (ds : List Decision) (t : Takes start v ds) (s : Carried LinearTerm) → HasRefutation (condition_with net i hops q t.way s)
          → truth_of v (formula_of net i hops q s) ≡ true → ⊥
      not_held v ds t s refuted held =
          true≢false (sym (pass_with (entry_holds itself v) (tests_on start t.way) (formula_of net i hops q s, true) t.holds held)
          ∙ below.refute (condition_with net i hops q t.way s) refuted.1.0 v refuted.1.1.typed refuted.1.1.accepted)

      path_quiet : (v : List ℕ) (ds : List Decision) (t : Takes start v ds) → AllByRecursion HasRefutation (conditions_on net i hops q t.way)
          → AllByRecursion (λ s. truth_of v (formula_of net i hops q s) ≡ true → ⊥) (asked_on q t.way)
      path_quiet v ds t h =
          all_weaker _ _ (asked_on q t.way) (λ s refuted. not_held v ds t s refuted)
          (all_mapped (condition_with net i hops q t.way) HasRefutation (asked_on q t.way) h)

      record_quiet : (v : List ℕ) (ds : List Decision) (t : Takes start v ds) (y : RecordTree) → RulesItOut net i hops q y → IsNoOtherPath ds y
          → AllByRecursion (λ s. truth_of v (formula_of net i hops q s) ≡ true → ⊥) (asked_on q t.way)
      record_quiet v ds t (path es places end' fields verdict) out same = path_quiet v ds t (out t.way (ap (route start.tree) same ∙ t.leads))
      record_quiet v ds t (pruned es before refutation) out same = absurd same
      record_quiet v ds t (unexplored es) out same = absurd out

      numbers_quiet : (x : Walked net i hops)
          → AllByRecursion (λ s. truth_of x.packet (formula_of net i hops q s) ≡ true → ⊥) (asked_on q (along x).takes.way)
          → AllByRecursion (λ a. number_formula net i hops x.packet q a ≡ true → ⊥) (asked_of net i hops q x)
      numbers_quiet x h =
          let a = along x in
          subst (AllByRecursion (λ s. number_formula net i hops x.packet q s ≡ true → ⊥)) (sym (bridge x))
          (mapped_all (carried_valued (term_at x.packet)) (λ s. number_formula net i hops x.packet q s ≡ true → ⊥) (asked_on q a.takes.way)
          (all_both _ _ _ (asked_on q a.takes.way)
          (λ s quiet fit held. quiet (formula_valued net i below.valuing x.packet q s fit ∙ held)) h (fitting x.walk.decisions a.takes.way a.takes.leads)))

      -- where every record rules it out, no walk shows it
      walk_quiet : (limit : ℕ) (rs : List RecordTree) → AreExact start limit rs → AllByRecursion (RulesItOut net i hops q) rs
          → (x : Walked net i hops) → AllByRecursion (λ a. number_formula net i hops x.packet q a ≡ true → ⊥) (asked_of net i hops q x)
      walk_quiet limit rs exact out x =
          let t = (along x).takes in
          let ds = x.walk.decisions in
          let once : IsShownOnce ds rs = exact.once x.packet ds t in
          let all = all_both _ _ (λ y. BeginsWith (decisions_of y) ds → RulesItOut net i hops q y × IsNoOtherPath ds y) rs
          (λ y r n b. (r, n b)) out once.shown in
          some_any _ rs (some_both _ _ (λ y. RulesItOut net i hops q y × IsNoOtherPath ds y) rs (λ y b m. m b) (one_some _ rs once.once) all)
          (λ y m. numbers_quiet x (record_quiet x.packet ds t y m.0 m.1))

      -- ---- a hit

      first_met : (cs : List SymCondition) (values : List ℕ) → FirstMet cs values → SomeOne (λ c. IsMetBy itself c values) cs
      first_met [] values h = absurd h
      first_met (c ∷ cs) values (inl h) = inl h
      first_met (c ∷ cs) values (inr h) = inr (first_met cs values h.1)

      -- its values take the decisions, and some formula is true there
      hit_takes : (ds : List Decision) (places : List Place) (end' : End) (fields : Fields LinearTerm) (verdict : Verdict) → IsPath start ds places end' fields verdict
          → (way : SymRoute) (values : List ℕ) → Leads start ds way → FirstMet (conditions_on net i hops q way) values
          → Takes start values ds × SomeOne (λ s. truth_of values (formula_of net i hops q s) ≡ true) (asked_on q way)
      hit_takes ds places end' fields verdict h way values leads met =
          let same : h.way ≡ way = some_same (sym h.leads ∙ leads) in
          let some = some_mapped (condition_with net i hops q way) (λ c. IsMetBy itself c values) (asked_on q way) (first_met (conditions_on net i hops q way) values met) in (
            some_any _ (asked_on q way) some (λ s m.
                let true_there = below.verdicts.met_is_true (condition_with net i hops q way s) values m in
                record {
                  fits = fits_front start.unknowns (progress_of way.left).choices values true_there.0.fit true_there.0.one_each;
                  way = way;
                  progress = h.progress;
                  end' = end';
                  leads = leads;
                  ended = ap (λ (r : SymRoute). r.left) (sym same) ∙ h.ended;
                  holds = pass_first (entry_holds itself values) (tests_on start way) ((formula_of net i hops q s, true) ∷ []) true_there.1;
                }),
            some_weaker _ _ (asked_on q way)
                (λ s m. pass_last (entry_holds itself values) (tests_on start way) (formula_of net i hops q s, true)
                (below.verdicts.met_is_true (condition_with net i hops q way s) values m).1) some,
          )

      record HitWalk (ds : List Decision) (values : List ℕ) : Type 0 where
        pub walked : Walked net i hops
        pub packet : walked.packet ≡ values
        pub decisions : walked.walk.decisions ≡ ds
        pub some : SomeOne (λ a. number_formula net i hops walked.packet q a ≡ true) (asked_of net i hops q walked)

      walk_shows : (values : List ℕ) (ds : List Decision) (way : SymRoute) → Leads start ds way
          → SomeOne (λ s. truth_of values (formula_of net i hops q s) ≡ true) (asked_on q way)
          → (x : Walked net i hops) → x.packet ≡ values → x.walk.decisions ≡ ds
          → SomeOne (λ a. number_formula net i hops x.packet q a ≡ true) (asked_of net i hops q x)
      walk_shows values ds way leads some x packet decisions =
          let a = along x in
          let same : way ≡ a.takes.way = some_same (sym leads ∙ (ap (route start.tree) (sym decisions) ∙ a.takes.leads)) in
          let here : SomeOne (λ s. truth_of x.packet (formula_of net i hops q s) ≡ true) (asked_on q a.takes.way) =
          subst (λ (r : SymRoute). SomeOne (λ s. truth_of x.packet (formula_of net i hops q s) ≡ true) (asked_on q r)) same
          (subst (λ v. SomeOne (λ s. truth_of v (formula_of net i hops q s) ≡ true) (asked_on q way)) (sym packet) some) in
          subst (SomeOne (λ s. number_formula net i hops x.packet q s ≡ true)) (sym (bridge x))
          (mapped_some (carried_valued (term_at x.packet)) (λ s. number_formula net i hops x.packet q s ≡ true) (asked_on q a.takes.way)
          (some_both _ _ (λ s. number_formula net i hops x.packet q (carried_valued (term_at x.packet) s) ≡ true) (asked_on q a.takes.way)
          (λ s held fit. sym (formula_valued net i below.valuing x.packet q s fit) ∙ held) here (fitting x.walk.decisions a.takes.way a.takes.leads)))

      hit_walks : (y : RecordTree) (values : List ℕ) → HasMeaning start y → ShowsHit net i hops q y values → HitWalk (decisions_of y) values
      hit_walks (path ds places end' fields verdict) values h hit =
          let m = hit_takes ds places end' fields verdict h hit.0 values hit.1 hit.2 in
          let (w, (c, starts, has), decisions) = (below.takes start is values ds).0 m.0 in
          let u = (below.shown_of (passages_from net i values hops c) w).0 has in
          let x : Walked net i hops = record { packet = values; carried = c; starts = starts; walk = u.0; is = u.1 } in
          let own : x.walk.decisions ≡ ds = ap (λ (t : Trail). t.decisions) u.2 ∙ decisions in
          record { walked = x; packet = refl; decisions = own; some = walk_shows values ds hit.0 hit.1 m.1 x refl own }
      hit_walks (pruned ds before refutation) values h hit = absurd hit
      hit_walks (unexplored ds) values h hit = absurd hit

      all_at : (P : RecordTree → Type 0) (front : List RecordTree) (y : RecordTree) (rest : List RecordTree) → AllByRecursion P (front ++ y ∷ rest) → P y
      all_at P front y rest h = (all_later P front (y ∷ rest) h).0

      holds_of : (limit : ℕ) (rs : List RecordTree) (outcome : Outcome) → AreExact start limit rs → IsKept (saying net i hops q) rs outcome → IsTrueOf net i hops q rs outcome
      holds_of limit rs (found number values) exact h =
          let good = all_at (IsGood start) h.front h.shower h.rest (subst (AllByRecursion (IsGood start)) h.joined exact.good) in
          let w = hit_walks h.shower values good.meaning h.shows in
          let shows = shows_it net i hops q w.walked w.some in (
            record {
              front = h.front;
              shower = h.shower;
              rest = h.rest;
              joined = h.joined;
              numbered = h.numbered;
              there = record { walked = w.walked; packet = w.packet; decisions = w.decisions; shows = shows };
            },
            shown_so net i hops q w.walked shows,
          )
      holds_of limit rs (left_open []) exact h =
          not_shown net i hops q (walk_quiet limit rs exact (none_open (saying net i hops q) 0 rs h.1))
      holds_of limit rs (left_open (n ∷ ns)) exact h = tt

  pub kept_is_right : (limit : ℕ) (rs : List RecordTree) (q : Question) (outcome : Outcome) → AreExactFor net i hops limit rs
      → IsKept (saying net i hops q) rs outcome → IsRight net i hops q rs outcome
  kept_is_right limit rs q outcome exact h =
      let same = start_is net i hops exact.start exact.explored in
      record {
        told = outcome_told q rs outcome h;
        holds = holds_of q (subst (IsExplored net i hops) same exact.explored) limit rs outcome (subst (λ s. AreExact s limit rs) same exact.exact) h;
      }
