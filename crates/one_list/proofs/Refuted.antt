-- Where the decisions of a refuted side lead, the condition is refuted.
use Rattle.std.proofs.Common.{◌≡◌, ◌∙◌, ℕ, zero, suc, inl, inr, Bool, true, false, List, [], ◌∷◌, ◌++◌, sym, ap, subst, append_assoc, Option, Some, None, option_map, if◌then◌else◌}
use Rattle.path_cond.specs.Seen.{AllTyped, itself}
use Rattle.refutation_check.specs.Longer.{WidenFreely, with_widths, condition_of}
use Rattle.refutation_check.specs.Seen.{IsRefuted}
use Rattle.refutation_check.specs.declared.outcome.Verdict.{Verdict}
use Rattle.refutation_check.specs.declared.steps.Refute.{Refute}
use Rattle.sefl_meaning.specs.declared.walk.Decision.{Decision}
use Rattle.sefl_meaning.specs.Courses.{Asking, Progress}
use Rattle.sefl_meaning.specs.Trees.{Tree, over, arrives, tests, splits, Copies, no_copies, copy_and}
use Rattle.sefl_meaning.specs.Routes.{Route, arriving, behind, by_truth, copy_route, route, taking, truth_of, waiting}
use Rattle.sefl_meaning.specs.Start.{progress_of}
use Rattle.exact_records.specs.Records.{EndsAtTest, IsPruned, IsPrunedSide, IsRefutedAt, Leads, SymCondition, SymRoute, SymStart, SymTree, condition_on, first_condition, injection_tests, with_test}
use Rattle.exact_records.specs.Points.{arrivals_of, node_of}
use Rattle.exact_records.proofs.Lists.{append_nil, cancel, same_first, snoc_same}
use Rattle.exact_records.proofs.Arriving.{node_waits, only_way, route_node, some_same}
use Rattle.exact_records.proofs.Ordered.{copy_taken, mapped_some, side_taken}
use Rattle.path_questions.proofs.Growing.{EachGrows, Grows, TreeGrows, grows_on}

module _ {V F : Type 0} where
  -- ---- choices along a route

  abbrev Grown : Route V F → Type 0
  Grown r = (before : List ℕ) × TreeGrows before r.left

  waits_grown : (t : Tree V F) (r : Route V F) (before : List ℕ) → TreeGrows before t → Some (waiting t) ≡ Some r → Grown r
  waits_grown t r before h e = subst Grown (some_same e) (before, h)

  mutual
    pub grown_along : (t : Tree V F) (ds : List Decision) (r : Route V F) (before : List ℕ) → TreeGrows before t → route t ds ≡ Some r → Grown r
    grown_along (over p end') [] r before h e = waits_grown (over p end') r before h e
    grown_along (over p end') (d ∷ ds) r before h e = let bad : None ≡ Some r = e in cc
    grown_along (arrives place p t) ds r before h e =
        let m = mapped_some (arriving place p) (route t ds) r e in
        subst Grown (sym m.2) (grown_along t ds m.0 p.choices h.1 m.1)
    grown_along (tests asking p test held broken) [] r before h e = waits_grown (tests asking p test held broken) r before h e
    grown_along (tests asking p test held broken) (d ∷ ds) r before h e =
        elim (side_taken asking p test held broken d ds r e) [
          | inl g ↦ subst Grown (sym g.is) (grown_along held ds g.way p.choices h.1 g.found)
          | inr g ↦ subst Grown (sym g.is) (grown_along broken ds g.way p.choices h.2 g.found)
        ]
    grown_along (splits p branches) [] r before h e = waits_grown (splits p branches) r before h e
    grown_along (splits p branches) (d ∷ ds) r before h e =
        let g = copy_taken p branches d ds r e in
        grown_copy branches g.0 ds r p.choices h.1 g.2

    grown_copy : (branches : Copies V F) (n : ℕ) (ds : List Decision) (r : Route V F) (before : List ℕ) → EachGrows before branches
        → copy_route branches n ds ≡ Some r → Grown r
    grown_copy no_copies n ds r before h e = let bad : None ≡ Some r = e in cc
    grown_copy (copy_and t branches) zero ds r before h e = grown_along t ds r before h.0 e
    grown_copy (copy_and t branches) (suc n) ds r before h e = grown_copy branches n ds r before h.1 e

  node_grows : (t : Tree V F) (before : List ℕ) → TreeGrows before t → Grows before (progress_of (node_of t))
  node_grows (over p end') before h = h
  node_grows (arrives place p t) before h =
      grows_on before p (progress_of (node_of t)) h.0 (node_grows t p.choices h.1)
  node_grows (tests asking p test held broken) before h = h.0
  node_grows (splits p branches) before h = h.0

  -- ---- where no decision leads, and where a side of a test leads

  abbrev at_node : Tree V F → Route V F
  at_node t = behind (arrivals_of t) [] (waiting (node_of t))

  first_way : (t : Tree V F) → route t [] ≡ Some (at_node t)
  first_way t = route_node t [] ∙ ap (option_map (behind (arrivals_of t) [])) (node_waits t)

  abbrev side_of : Bool → Tree V F → Tree V F → Tree V F
  side_of truth held broken = if truth then held else broken

  truth_way : (truth : Bool) (test : F) (held broken : Tree V F)
      → by_truth (Some truth) test (route held []) (route broken []) ≡ Some (taking test truth (at_node (side_of truth held broken)))
  truth_way true test held broken = ap (option_map (taking test true)) (first_way held)
  truth_way false test held broken = ap (option_map (taking test false)) (first_way broken)

  side_way : (asking : Asking) (p : Progress V) (test : F) (held broken : Tree V F) (d : Decision) (truth : Bool) → truth_of asking d ≡ Some truth
      → route (tests asking p test held broken) (d ∷ []) ≡ Some (taking test truth (at_node (side_of truth held broken)))
  side_way asking p test held broken d truth offered =
      ap (λ (o : Option Bool). by_truth o test (route held []) (route broken [])) offered ∙ truth_way truth test held broken

  side_grows : (truth : Bool) (held broken : Tree V F) (before : List ℕ) → TreeGrows before held → TreeGrows before broken
      → TreeGrows before (side_of truth held broken)
  side_grows true held broken before h k = h
  side_grows false held broken before h k = k

  same_asking : (a b : Asking) (p q : Progress V) (f g : F) (h k u v : Tree V F) → tests a p f h u ≡ tests b q g k v → a ≡ b
  same_asking a b p q f g h k u v e = cc

  same_test : (a b : Asking) (p q : Progress V) (f g : F) (h k u v : Tree V F) → tests a p f h u ≡ tests b q g k v → f ≡ g
  same_test a b p q f g h k u v e = cc

-- ---- the condition of a refuted side

module _ (s : SymStart) where
  abbrev side_condition : (ds : List Decision) → EndsAtTest s ds → SymCondition
  side_condition ds a = with_test (condition_on s a.way) a.test a.truth

  same_parent : (ds : List Decision) (a b : EndsAtTest s ds) → a.parent ≡ b.parent
  same_parent ds a b = snoc_same a.parent b.parent a.last b.last (sym a.joined ∙ b.joined)

  same_last : (ds : List Decision) (a b : EndsAtTest s ds) → a.last ≡ b.last
  same_last ds a b =
      same_first (cancel a.parent (a.last ∷ []) (b.last ∷ [])
      (sym a.joined ∙ (b.joined ∙ ap (λ p. p ++ b.last ∷ []) (sym (same_parent ds a b)))))

  pub same_way : (ds : List Decision) (a b : EndsAtTest s ds) → a.way ≡ b.way
  same_way ds a b = only_way s b.parent a.way b.way (subst (λ p. Leads s p a.way) (same_parent ds a b) a.leads) b.leads

  -- a decision is offered by one test
  same_side : (ds : List Decision) (a b : EndsAtTest s ds) → side_condition ds a ≡ side_condition ds b
  same_side ds a b =
      let way = same_way ds a b in
      let node : tests a.asking a.progress a.test a.held a.broken ≡ tests b.asking b.progress b.test b.held b.broken =
      sym a.waits ∙ (ap (λ (r : SymRoute). r.left) way ∙ b.waits) in
      let asking = same_asking a.asking b.asking a.progress b.progress a.test b.test a.held b.held a.broken b.broken node in
      let test = same_test a.asking b.asking a.progress b.progress a.test b.test a.held b.held a.broken b.broken node in
      let last = same_last ds a b in
      let truth = some_same (sym a.offered ∙ ((λ i. truth_of (asking i) (last i)) ∙ b.offered)) in
      λ i. with_test (condition_on s (way i)) (test i) (truth i)

  -- these decisions lead where the condition is refuted
  pub record RefutedThere (ds : List Decision) : Type 0 where
    pub way : SymRoute
    pub leads : Leads s ds way
    pub refuted : IsRefuted itself (condition_on s way)

module _ (widen : WidenFreely itself)
    (composed : (t : SymTree) (ds es : List Decision) (r : SymRoute) → route t ds ≡ Some r
    → route t (ds ++ es) ≡ option_map (behind r.arrivals r.tests) (route r.left es))
    (s : SymStart) (grows : TreeGrows [] s.tree) where
  wider : (c : SymCondition) (more : List ℕ) → AllTyped itself c.widths c.entries → IsRefuted itself c → IsRefuted itself (with_widths c more)
  wider c more typed refuted = (widen.refuted c more typed).1 refuted

  first_refuted : (ds : List Decision) (refutation : List Refute) → IsPruned s ds None refutation → IsRefutedAt s ds None → RefutedThere s ds
  first_refuted ds refutation h is =
      let more = (progress_of (node_of s.tree)).choices in
      let there : with_widths (first_condition s) more ≡ condition_on s (at_node s.tree) =
      λ i. condition_of s.most_choices (s.unknowns ++ more) (sym (append_nil (injection_tests s)) i) in
      record {
        way = at_node s.tree;
        leads = subst (λ q. Leads s q (at_node s.tree)) (sym h.0) (first_way s.tree);
        refuted = subst (IsRefuted itself) there (wider (first_condition s) more h.1.typed is);
      }

  side_refuted : (ds : List Decision) (before : Verdict) (refutation : List Refute) → IsPrunedSide s ds before refutation → IsRefutedAt s ds (Some before)
      → RefutedThere s ds
  side_refuted ds before refutation h is =
      let side = h.side in
      let taken = side_of side.truth side.held side.broken in
      let grown = grown_along s.tree side.parent side.way [] grows side.leads in
      let node : TreeGrows grown.0 (tests side.asking side.progress side.test side.held side.broken) =
      subst (λ (t : SymTree). TreeGrows grown.0 t) side.waits grown.1 in
      let more = node_grows taken side.progress.choices (side_grows side.truth side.held side.broken side.progress.choices node.1 node.2) in
      let way : SymRoute = behind side.way.arrivals side.way.tests (taking side.test side.truth (at_node taken)) in
      let there : with_widths (side_condition s ds side) more.0 ≡ condition_on s way =
      λ i. record {
        widths = (ap (λ (t : SymTree). (s.unknowns ++ (progress_of t).choices) ++ more.0) side.waits
            ∙ (append_assoc s.unknowns side.progress.choices more.0 ∙ ap (λ ws. s.unknowns ++ ws) (sym more.1))) i;
        entries = append_assoc (injection_tests s) side.way.tests ((side.test, side.truth) ∷ []) i;
        most_choices = s.most_choices;
      } in
      record {
        way = way;
        leads = ap (route s.tree) side.joined
            ∙ (composed s.tree side.parent (side.last ∷ []) side.way side.leads
            ∙ (ap (λ (t : SymTree). option_map (behind side.way.arrivals side.way.tests) (route t (side.last ∷ []))) side.waits
            ∙ ap (option_map (behind side.way.arrivals side.way.tests))
            (side_way side.asking side.progress side.test side.held side.broken side.last side.truth side.offered)));
        refuted = subst (IsRefuted itself) there
            (wider (side_condition s ds side) more.0 h.refuted.typed (subst (IsRefuted itself) (same_side s ds is.0 side) is.1));
      }

  pub refuted_there : (ds : List Decision) (before : Option Verdict) (refutation : List Refute) → IsPruned s ds before refutation → IsRefutedAt s ds before
      → RefutedThere s ds
  refuted_there ds None refutation h is = first_refuted ds refutation h is
  refuted_there ds (Some before) refutation h is = side_refuted ds before refutation h is
