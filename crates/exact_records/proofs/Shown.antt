-- What a packet takes is shown by one record, and no refuted one.
use Rattle.std.proofs.Common.{◌≡◌, ℕ, Bool, true, false, List, [], ◌∷◌, ◌++◌, refl, sym, ap, subst, ◌∙◌, append_assoc, Option, Some, None, option_map}
use Rattle.std.specs.List.{AllByRecursion, list_all}
use Rattle.lin_term.specs.Terms.{LinearTerm}
use Rattle.path_formula.specs.Formulas.{FormulaTree}
use Rattle.path_cond.specs.Seen.{entry_holds, itself}
use Rattle.refutation_check.specs.declared.outcome.Verdict.{Verdict}
use Rattle.refutation_check.specs.declared.steps.Refute.{Refute}
use Rattle.sefl_meaning.specs.declared.walk.Decision.{Decision}
use Rattle.sefl_meaning.specs.declared.walk.Place.{Place}
use Rattle.sefl_meaning.specs.declared.walk.End.{End}
use Rattle.sefl_meaning.specs.Courses.{Progress}
use Rattle.sefl_meaning.specs.Trees.{over}
use Rattle.sefl_meaning.specs.Routes.{behind, by_truth, route, taking, truth_of}
use Rattle.sefl_meaning.specs.Order.{BeginsWith}
use Rattle.exact_records.specs.Below.{Facts}
use Rattle.exact_records.specs.Records.{HasMeaning, IsPrunedSide, IsRefutedBy, RecordTree, Satisfy, SymCondition, SymRoute, SymStart, SymTree, Takes, decisions_of, injection_tests, path, pruned, unexplored}
use Rattle.exact_records.specs.Exact.{ExactlyOne, IsGood, IsNoOtherPath, IsShownOnce}
use Rattle.exact_records.proofs.Lists.{all_weaker, append_nil, pass_append, pass_first, pass_later, true_not_false}
use Rattle.exact_records.proofs.Ordered.{mapped_some}

-- each test has its truth at these values
abbrev Pass : List ℕ → List (FormulaTree × Bool) → Type 0
Pass v es = list_all (entry_holds itself v) es ≡ true

-- a test is the first that a decision takes there
first_test : (v : List ℕ) (side : SymTree) (test : FormulaTree) (truth : Bool) (ds : List Decision) (ps : List (Place × Progress LinearTerm))
    (us : List (FormulaTree × Bool)) (r : SymRoute) → option_map (behind ps us) (option_map (taking test truth) (route side ds)) ≡ Some r → Pass v r.tests
    → Pass v (us ++ (test, truth) ∷ [])
first_test v side test truth ds ps us r e h =
    let m = mapped_some (behind ps us) (option_map (taking test truth) (route side ds)) r e in
    let n = mapped_some (taking test truth) (route side ds) m.0 m.1 in
    let same : r.tests ≡ (us ++ (test, truth) ∷ []) ++ n.0.tests =
    ap (λ (x : SymRoute). x.tests) m.2 ∙ (ap (λ (x : SymRoute). us ++ x.tests) n.2 ∙ sym (append_assoc us ((test, truth) ∷ []) n.0.tests)) in
    pass_first (entry_holds itself v) (us ++ (test, truth) ∷ []) n.0.tests (subst (Pass v) same h)

by_truth_first : (v : List ℕ) (held broken : SymTree) (test : FormulaTree) (answer : Option Bool) (truth : Bool) (ds : List Decision)
    (ps : List (Place × Progress LinearTerm)) (us : List (FormulaTree × Bool)) (r : SymRoute)
    → answer ≡ Some truth → option_map (behind ps us) (by_truth answer test (route held ds) (route broken ds)) ≡ Some r → Pass v r.tests
    → Pass v (us ++ (test, truth) ∷ [])
by_truth_first v held broken test None truth ds ps us r is e h = let bad : None ≡ Some truth = is in cc
by_truth_first v held broken test (Some true) truth ds ps us r is e h =
    let same : true ≡ truth = cc in
    subst (λ b. Pass v (us ++ (test, b) ∷ [])) same (first_test v held test true ds ps us r e h)
by_truth_first v held broken test (Some false) truth ds ps us r is e h =
    let same : false ≡ truth = cc in
    subst (λ b. Pass v (us ++ (test, b) ∷ [])) same (first_test v broken test false ds ps us r e h)

module _ (facts : Facts) where
  -- nothing satisfies what is refuted
  pub refuted_fails : (c : SymCondition) (refutation : List Refute) (v : List ℕ) → IsRefutedBy c refutation → Satisfy v c → ⊥
  refuted_fails c refutation v h holds =
      true_not_false (list_all (entry_holds itself v) c.entries) holds (facts.refute c refutation v h.typed h.accepted)

  -- nothing is offered where it is over
  pub over_is_last : (t : SymTree) (ds es : List Decision) (r q : SymRoute) (p : Progress LinearTerm) (end' : End) → route t ds ≡ Some r → r.left ≡ over p end'
      → route t (ds ++ es) ≡ Some q → es ≡ []
  over_is_last t ds [] r q p end' e k m = refl
  over_is_last t ds (d ∷ es) r q p end' e k m =
      let bad : None ≡ Some q = sym (ap (λ x. option_map (behind r.arrivals r.tests) (route x (d ∷ es))) k) ∙ (sym (facts.composed t ds (d ∷ es) r e) ∙ m) in
      cc

module _ (facts : Facts) (s : SymStart) where
  tests_first : (v : List ℕ) (ds : List Decision) (t : Takes s v ds) → Pass v (injection_tests s)
  tests_first v ds t = pass_first (entry_holds itself v) (injection_tests s) t.way.tests t.holds

  tests_later : (v : List ℕ) (ds : List Decision) (t : Takes s v ds) → Pass v t.way.tests
  tests_later v ds t = pass_later (entry_holds itself v) (injection_tests s) t.way.tests t.holds

  -- values that take decisions behind a refuted side are impossible
  side_not_taken : (v : List ℕ) (ds es : List Decision) (before : Verdict) (refutation : List Refute) → IsPrunedSide s es before refutation → BeginsWith es ds → Takes s v ds → ⊥
  side_not_taken v ds es before refutation h begins t =
      let side = h.side in
      let whole : ds ≡ side.parent ++ side.last ∷ begins.0 = sym begins.1 ∙ (ap (λ zs. zs ++ begins.0) side.joined ∙ append_assoc side.parent (side.last ∷ []) begins.0) in
      let goes = sym (facts.composed s.tree side.parent (side.last ∷ begins.0) side.way side.leads) ∙ (ap (route s.tree) (sym whole) ∙ t.leads) in
      let goes_on : option_map (behind side.way.arrivals side.way.tests) (by_truth (truth_of side.asking side.last) side.test (route side.held begins.0) (route side.broken begins.0)) ≡ Some t.way =
      ap (λ x. option_map (behind side.way.arrivals side.way.tests) (route x (side.last ∷ begins.0))) (sym side.waits) ∙ goes in
      let taken = by_truth_first v side.held side.broken side.test (truth_of side.asking side.last) side.truth begins.0 side.way.arrivals side.way.tests t.way side.offered goes_on (tests_later v ds t) in
      refuted_fails facts _ refutation v h.refuted
      (subst (Pass v) (sym (append_assoc (injection_tests s) side.way.tests ((side.test, side.truth) ∷ [])))
      (pass_append (entry_holds itself v) (injection_tests s) (side.way.tests ++ (side.test, side.truth) ∷ []) (tests_first v ds t) taken))

  pub shown_by : (v : List ℕ) (ds : List Decision) → Takes s v ds → (x : RecordTree) → HasMeaning s x → BeginsWith (decisions_of x) ds → IsNoOtherPath ds x
  shown_by v ds t (path es places end' fields verdict) h begins =
      let rest : begins.0 ≡ [] = over_is_last facts s.tree es begins.0 h.way t.way h.progress end' h.leads h.ended (ap (route s.tree) begins.1 ∙ t.leads) in
      sym (append_nil es) ∙ (ap (λ zs. es ++ zs) (sym rest) ∙ begins.1)
  shown_by v ds t (pruned es None refutation) h begins =
      absurd (refuted_fails facts _ refutation v h.1 (tests_first v ds t))
  shown_by v ds t (pruned es (Some before) refutation) h begins = side_not_taken v ds es before refutation h begins t
  shown_by v ds t (unexplored es) h begins = tt

  -- of good records
  pub shown_once : (v : List ℕ) (ds : List Decision) (rs : List RecordTree) → Takes s v ds → AllByRecursion (IsGood s) rs
      → ExactlyOne (λ x. BeginsWith (decisions_of x) ds) rs → IsShownOnce ds rs
  shown_once v ds rs t good once = record {
    once = once;
    shown = all_weaker _ _ rs (λ x (g : IsGood s x) begins. shown_by v ds t x g.meaning begins) good;
  }
