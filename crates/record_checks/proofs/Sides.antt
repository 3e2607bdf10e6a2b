-- A refuted side at the stop before its last decision.
use Rattle.std.proofs.Common.{◌≡◌, ◌↔◌, Bool, IsTrue, List, [], ◌∷◌, ◌++◌, Some, sym, ap, subst, ◌∙◌}
use Rattle.std.proofs.lemmas.List.{same_from_push}
use Rattle.path_formula.specs.Formulas.{FormulaTree}
use Rattle.path_cond.specs.Conditions.{Condition}
use Rattle.refutation_check.specs.declared.outcome.Verdict.{Verdict}
use Rattle.refutation_check.specs.declared.steps.Refute.{Refute}
use Rattle.sefl_meaning.specs.declared.walk.Decision.{Decision}
use Rattle.sefl_meaning.specs.Courses.{Asking}
use Rattle.sefl_meaning.specs.Routes.{IsOpen, truth_of}
use Rattle.sefl_meaning.specs.Trees.{over, arrives, tests, splits}
use Rattle.exact_records.specs.Records.{EndsAtTest, IsPrunedSide, IsRefutedBy, Leads, MayPrecede, SymCondition, SymRoute, SymStart, SymTree, condition_on, with_test}
use Rattle.record_checks.specs.Stops.{IsSide, LeadsTo, Stop, trees_of}
use Rattle.record_checks.proofs.Parts.{one_way}

-- what a tree waits for
abbrev asking_in : SymTree → Asking → Asking
asking_in (over p end') other = other
asking_in (arrives place p t) other = other
asking_in (tests asking p test held broken) other = asking
asking_in (splits p branches) other = other

abbrev test_in : SymTree → FormulaTree → FormulaTree
test_in (over p end') other = other
test_in (arrives place p t) other = other
test_in (tests asking p test held broken) other = test
test_in (splits p branches) other = other

same_some : {A : Type 0} {a b : A} → Some a ≡ Some b → a ≡ b
same_some e = cc

module _ (s : SymStart) where
  -- what two accounts of the same last test have in common
  pub record AreSameSides (ds : List Decision) (a b : EndsAtTest s ds) : Type 0 where
    pub way : a.way ≡ b.way
    pub condition : with_test (condition_on s a.way) a.test a.truth ≡ with_test (condition_on s b.way) b.test b.truth

  same_ways : (ds : List Decision) (a b : EndsAtTest s ds) → a.way ≡ b.way
  same_ways ds a b =
      let joined = same_from_push a.parent b.parent a.last b.last (sym a.joined ∙ b.joined) in
      one_way s b.parent a.way b.way (subst (λ (es : List Decision). Leads s es a.way) joined.0 a.leads) b.leads

  pub same_sides : (ds : List Decision) (a b : EndsAtTest s ds) → AreSameSides ds a b
  same_sides ds a b =
      let joined = same_from_push a.parent b.parent a.last b.last (sym a.joined ∙ b.joined) in
      let way = same_ways ds a b in
      let waits = sym a.waits ∙ (ap (λ (r : SymRoute). r.left) way ∙ b.waits) in
      let asking : a.asking ≡ b.asking = ap (λ (t : SymTree). asking_in t a.asking) waits in
      let test : a.test ≡ b.test = ap (λ (t : SymTree). test_in t a.test) waits in
      let truth : a.truth ≡ b.truth = same_some (sym a.offered ∙ ((λ i. truth_of (asking i) (joined.1 i)) ∙ b.offered)) in
      record { way = way; condition = λ i. with_test (condition_on s (way i)) (test i) (truth i) }

  -- the parent leads where the decisions before the last one lead
  pub side_way : (parent : List Decision) (last : Decision) (stop : Stop) (l : LeadsTo s parent stop) (a : EndsAtTest s (parent ++ last ∷ [])) → l.way ≡ a.way
  side_way parent last stop l a =
      let joined = same_from_push parent a.parent last a.last a.joined in
      one_way s a.parent l.way a.way (subst (λ (es : List Decision). Leads s es l.way) joined.0 l.leads) a.leads

  module _ (parent : List Decision) (last : Decision) (stop : Stop) (l : LeadsTo s parent stop) (c : Condition) (i : IsSide s (parent ++ last ∷ []) c)
      (before : Verdict) (refutation : List Refute) where
    pub checked_side : IsRefutedBy (trees_of c) refutation → MayPrecede (trees_of stop.state.condition) before → IsPrunedSide s (parent ++ last ∷ []) before refutation
    checked_side h k = record {
      side = i.side;
      refuted = subst (λ (d : SymCondition). IsRefutedBy d refutation) i.condition h;
      precedes = subst (λ (d : SymCondition). MayPrecede d before) (l.condition ∙ ap (condition_on s) (side_way parent last stop l i.side)) k;
    }

    pub side_refuted : IsPrunedSide s (parent ++ last ∷ []) before refutation → IsRefutedBy (trees_of c) refutation
    side_refuted h =
        let same = same_sides (parent ++ last ∷ []) h.side i.side in
        subst (λ (d : SymCondition). IsRefutedBy d refutation) (same.condition ∙ sym i.condition) h.refuted

    pub side_precedes : IsPrunedSide s (parent ++ last ∷ []) before refutation → MayPrecede (trees_of stop.state.condition) before
    side_precedes h =
        subst (λ (d : SymCondition). MayPrecede d before) (ap (condition_on s) (sym (side_way parent last stop l h.side)) ∙ sym l.condition) h.precedes

    -- a verdict before the side may be, or not, where the side is refuted
    pub side_judged : (b : Bool) (there : Condition) → there ≡ stop.state.condition → IsRefutedBy (trees_of c) refutation → (IsTrue b ↔ MayPrecede (trees_of there) before)
        → (IsTrue b ↔ IsPrunedSide s (parent ++ last ∷ []) before refutation)
    side_judged b there is refuted h = (
      λ y. checked_side refuted (subst (λ (d : Condition). MayPrecede (trees_of d) before) is (h.0 y)),
      λ p. h.1 (subst (λ (d : Condition). MayPrecede (trees_of d) before) (sym is) (side_precedes p)),
    )

  -- decisions that end at a test have an open parent
  pub parent_open : (ds parent : List Decision) (last : Decision) → ds ≡ parent ++ last ∷ [] → EndsAtTest s ds → IsOpen s.tree parent
  parent_open ds parent last e a =
      let joined = same_from_push parent a.parent last a.last (sym e ∙ a.joined) in
      (a.way, subst (λ (es : List Decision). Leads s es a.way) (sym joined.0) a.leads)

  not_pushed : (xs : List Decision) (d : Decision) → [] ≡ xs ++ d ∷ [] → ⊥
  not_pushed [] d e = cc
  not_pushed (x ∷ xs) d e = let bad : [] ≡ x ∷ (xs ++ d ∷ []) = e in cc

  pub none_ends : (ds : List Decision) → ds ≡ [] → EndsAtTest s ds → ⊥
  none_ends ds e a = not_pushed a.parent a.last (sym e ∙ a.joined)
