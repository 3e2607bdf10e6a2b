-- What an exploration writes is good, and what it leaves can be gone on with.
use Rattle.std.proofs.Common.{◌≡◌, ℕ, inl, inr, Bool, true, false, List, [], ◌∷◌, ◌++◌, refl, sym, ap, subst, ◌∙◌, append_assoc, Option, Some, None, option_map, if◌then◌else◌}
use Rattle.refutation_check.specs.Longer.{condition_of}
use Rattle.lin_term.specs.Terms.{LinearTerm}
use Rattle.path_formula.specs.Formulas.{FormulaTree}
use Rattle.path_cond.specs.Seen.{itself}
use Rattle.refutation_check.specs.Seen.{IsRefuted, IsUndecidedBy}
use Rattle.refutation_check.specs.declared.outcome.Verdict.{Verdict}
use Rattle.refutation_check.specs.declared.outcome.Verdict.TheVariants.{Sat, Undecided}
use Rattle.refutation_check.specs.declared.steps.Refute.{Refute}
use Rattle.sefl_meaning.specs.declared.walk.Decision.{Decision}
use Rattle.sefl_meaning.specs.declared.walk.Decision.TheVariants.{Copy}
use Rattle.sefl_meaning.specs.declared.walk.End.{End}
use Rattle.sefl_meaning.specs.Courses.{Asking, at_if, at_constrain, Progress}
use Rattle.sefl_meaning.specs.Trees.{over, tests, splits, Copies}
use Rattle.sefl_meaning.specs.Taken.{decision_at}
use Rattle.sefl_meaning.specs.Routes.{IsOpen, behind, route, truth_of}
use Rattle.sefl_meaning.specs.Start.{progress_of}
use Rattle.sefl_meaning.specs.Fields.{fields_of}
use Rattle.exact_records.specs.Below.{Facts}
use Rattle.exact_records.specs.Records.{EndsAtTest, IsFoundRefuted, IsRefutedBy, IsVerdictOn, Leads, MayBe, MayPrecede, SymRoute, SymStart, SymTree, condition_on, first_condition, injection_tests, path, pruned, unexplored, with_test}
use Rattle.exact_records.specs.Exact.{IsGood, IsUnrefuted}
use Rattle.exact_records.specs.Points.{IsAt, IsBefore, IsBehindTest, IsFirst, IsKnown, IsPending, Point, condition_at, copied, copy_at, decided, first_point, sided, to_decide}
use Rattle.exact_records.proofs.Lists.{append_nil, snoc_same, split_last}
use Rattle.exact_records.proofs.Arriving.{IsSomeWay, IsWaiting, always_way, at_copy, at_side, at_start, condition_there, led, only_way, waits_at_test, way_at}
use Rattle.exact_records.proofs.Judging.{known_open, met_fits, met_satisfies, verdict_precedes}

module _ (facts : Facts) (s : SymStart) where
  -- nothing is refuted until the next node, nor there
  unrefuted_more : (b : Point) (d : Decision) → IsWaiting s b → (IsRefuted itself (condition_at s b) → ⊥) → IsUnrefuted s b.decisions → IsUnrefuted s (b.decisions ++ d ∷ [])
  unrefuted_more b d w open_here h p e rest joined way leads refuted =
      elim (split_last b.decisions d e p rest joined) [
        | inl k ↦
            let same : way ≡ way_at s b w = only_way s b.decisions way (way_at s b w) (subst (λ q. Leads s q way) k.0 leads) (led s b w) in
            open_here (subst (IsRefuted itself) (ap (condition_on s) same ∙ condition_there s b w) refuted)
        | inr k ↦ h p e k.0 k.1 way leads refuted
      ]

  -- ---- records

  may_be : (b : Point) (progress : Progress LinearTerm) (end' : End) (verdict : Verdict) (w : IsWaiting s b) → b.tree ≡ over progress end'
      → IsVerdictOn (condition_at s b) verdict → MayBe s b.decisions (condition_on s (way_at s b w)) verdict
  may_be b progress end' (Sat values) w e is = record {
    fits = met_fits facts (condition_at s b) s.unknowns (progress_of b.tree).choices values w.widths is;
    way = way_at s b w;
    progress = progress;
    end' = end';
    leads = led s b w;
    ended = e;
    holds = met_satisfies facts (condition_at s b) values is;
  }
  may_be b progress end' (Undecided cause) w e is =
      facts.verdicts.licensed (condition_on s (way_at s b w)) cause (subst (λ c. IsUndecidedBy itself c cause) (sym (condition_there s b w)) is)

  pub path_is_good : (b : Point) (progress : Progress LinearTerm) (end' : End) (verdict : Verdict) → IsWaiting s b → b.tree ≡ over progress end'
      → IsUnrefuted s b.decisions → IsVerdictOn (condition_at s b) verdict → IsGood s (path b.decisions b.places end' (fields_of progress.state) verdict)
  path_is_good b progress end' verdict w e unrefuted is = record {
    meaning = record {
      way = way_at s b w;
      progress = progress;
      leads = led s b w;
      ended = e;
      places_are = w.at.places;
      fields_are = refl;
      verdict_may = may_be b progress end' verdict w e is;
    };
    verdict = λ way leads. subst (λ q. IsVerdictOn (condition_on s q) verdict) (only_way s b.decisions (way_at s b w) way (led s b w) leads)
        (subst (λ c. IsVerdictOn c verdict) (sym (condition_there s b w)) is);
    unrefuted = unrefuted;
  }

  abbrev parent_waits : (a : Point) (before : Verdict) (b : IsBehindTest s a before) → IsWaiting s b.parent
  parent_waits a before b = waits_at_test s b.parent b.asking b.progress b.test b.held b.broken b.waits b.at b.widths

  decision_taken : (asking : Asking) (truth : Bool) → truth_of asking (decision_at asking truth) ≡ Some truth
  decision_taken at_if true = refl
  decision_taken at_if false = refl
  decision_taken at_constrain true = refl
  decision_taken at_constrain false = refl

  -- the side of a test that a point is behind
  abbrev side_at : (a : Point) (before : Verdict) (b : IsBehindTest s a before) → EndsAtTest s a.decisions
  side_at a before b = record {
    parent = b.parent.decisions;
    last = decision_at b.asking b.truth;
    joined = ap (λ (x : Point). x.decisions) b.is;
    way = way_at s b.parent (parent_waits a before b);
    leads = led s b.parent (parent_waits a before b);
    asking = b.asking;
    progress = b.progress;
    test = b.test;
    held = b.held;
    broken = b.broken;
    waits = b.waits;
    truth = b.truth;
    offered = decision_taken b.asking b.truth;
  }

  -- the condition of the refuted side
  side_condition : (a : Point) (before : Verdict) (b : IsBehindTest s a before)
      → condition_at s a ≡ with_test (condition_on s (way_at s b.parent (parent_waits a before b))) b.test b.truth
  side_condition a before b =
      ap (condition_at s) b.is
      ∙ (λ i. record {
        widths = (b.widths ∙ ap (λ (t : SymTree). s.unknowns ++ (progress_of t).choices) (sym b.waits)) i;
        entries = sym (append_assoc (injection_tests s) b.parent.tests ((b.test, b.truth) ∷ [])) i;
        most_choices = s.most_choices;
      })

  pruned_side_is_good : (a : Point) (before written : Verdict) (refutation : List Refute) → (b : IsBehindTest s a before) → IsUnrefuted s a.decisions
      → IsFoundRefuted (condition_at s a) refutation → IsVerdictOn (condition_at s b.parent) written → IsGood s (pruned a.decisions (Some written) refutation)
  pruned_side_is_good a before written refutation b unrefuted found is =
      let w = parent_waits a before b in
      let side = side_at a before b in
      record {
        meaning = record {
          side = side;
          refuted = subst (λ c. IsRefutedBy c refutation) (side_condition a before b) found.by;
          precedes = subst (λ c. MayPrecede c written) (sym (condition_there s b.parent w)) (verdict_precedes facts (condition_at s b.parent) written is);
        };
        verdict = (
          (λ other.
              let same_parent = snoc_same side.parent other.parent side.last other.last (sym side.joined ∙ other.joined) in
              let same : way_at s b.parent w ≡ other.way = only_way s other.parent (way_at s b.parent w) other.way (subst (λ q. Leads s q (way_at s b.parent w)) same_parent (led s b.parent w)) other.leads in
              subst (λ q. IsVerdictOn (condition_on s q) written) same (subst (λ c. IsVerdictOn c written) (sym (condition_there s b.parent w)) is)),
          (side, subst (IsRefuted itself) (side_condition a before b) found.refuted),
        );
        unrefuted = unrefuted;
      }

  first_is_good : (a : Point) (refutation : List Refute) → IsFirst s a → IsUnrefuted s a.decisions → IsFoundRefuted (condition_at s a) refutation
      → IsGood s (pruned a.decisions None refutation)
  first_is_good a refutation h unrefuted found =
      let first : condition_at s a ≡ first_condition s =
      λ i. condition_of s.most_choices (h.widths i) ((ap (λ us. injection_tests s ++ us) h.tests ∙ append_nil (injection_tests s)) i) in
      record {
        meaning = (h.decisions, subst (λ c. IsRefutedBy c refutation) first found.by);
        verdict = (tt, subst (IsRefuted itself) first found.refuted);
        unrefuted = unrefuted;
      }

  pub pruned_is_good : (a : Point) (before written : Option Verdict) (refutation : List Refute) → IsPending s a (to_decide before) → IsBefore s a before written
      → IsFoundRefuted (condition_at s a) refutation → IsGood s (pruned a.decisions written refutation)
  pruned_is_good a None written refutation h is found =
      subst (λ w. IsGood s (pruned a.decisions w refutation)) (sym is) (first_is_good a refutation h.found h.unrefuted found)
  pruned_is_good a (Some before) None refutation h is found = absurd is
  pruned_is_good a (Some before) (Some verdict) refutation h is found =
      pruned_side_is_good a before verdict refutation h.found h.unrefuted found (is h.found)

  open_at : (a : Point) (at : IsAt s a) → (r : Option SymRoute) → route a.tree [] ≡ r → IsSomeWay r → IsOpen s.tree a.decisions
  open_at a at None e some = absurd some
  open_at a at (Some r) e some =
      (behind at.arrivals a.tests r, ap (route s.tree) (sym (append_nil a.decisions)) ∙ (at.leads [] ∙ ap (option_map (behind at.arrivals a.tests)) e))

  pub unexplored_is_good : (a : Point) → IsAt s a → IsUnrefuted s a.decisions → IsGood s (unexplored a.decisions)
  unexplored_is_good a at unrefuted =
      record { meaning = open_at a at (route a.tree []) refl (always_way a.tree); verdict = tt; unrefuted = unrefuted }

  -- ---- what is left

  pub side_pends : (b : Point) (verdict : Verdict) (asking : Asking) (p : Progress LinearTerm) (test : FormulaTree) (held broken : SymTree) (truth : Bool)
      → IsWaiting s b → b.tree ≡ tests asking p test held broken → IsUnrefuted s b.decisions → IsKnown (condition_at s b) verdict
      → IsPending s (sided b asking test truth (if truth then held else broken)) (to_decide (Some verdict))
  side_pends b verdict asking p test held broken truth w e unrefuted known = record {
    at = at_side s b asking p test held broken truth e w.at;
    unrefuted = unrefuted_more b (decision_at asking truth) w (known_open facts (condition_at s b) verdict known) unrefuted;
    found = record {
      parent = b;
      at = w.at;
      asking = asking;
      progress = p;
      test = test;
      held = held;
      broken = broken;
      waits = e;
      widths = w.widths ∙ ap (λ (t : SymTree). s.unknowns ++ (progress_of t).choices) e;
      truth = truth;
      is = refl;
      known = known;
    };
  }

  pub copy_pends : (b : Point) (verdict : Verdict) (p : Progress LinearTerm) (branches : Copies LinearTerm FormulaTree) (n : ℕ) (t : SymTree) → IsWaiting s b
      → b.tree ≡ splits p branches → copy_at branches n ≡ Some t → IsUnrefuted s b.decisions → IsKnown (condition_at s b) verdict
      → IsPending s (copied b n t) (decided verdict)
  copy_pends b verdict p branches n t w e k unrefuted known = record {
    at = at_copy s b p branches n t e k w.at;
    unrefuted = unrefuted_more b (Copy n) w (known_open facts (condition_at s b) verdict known) unrefuted;
    found = known;
  }

nothing_before : (p : List Decision) (d : Decision) (rest : List Decision) → [] ≡ p ++ d ∷ rest → ⊥
nothing_before [] d rest e = cc
nothing_before (x ∷ p) d rest e = let bad : [] ≡ x ∷ (p ++ d ∷ rest) = e in cc

pub start_pends : (s : SymStart) → IsPending s (first_point s) (to_decide None)
start_pends s = record {
  at = at_start s;
  unrefuted = λ p d rest e way leads refuted. nothing_before p d rest e;
  found = record { decisions = refl; tests = refl; widths = refl };
}
