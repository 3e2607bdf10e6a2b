-- Two good records of one start whose decisions meet are of one kind, and the same except for a refutation.
use Rattle.std.proofs.Common.{◌≡◌, ◌∙◌, ◌<◌, inl, inr, List, [], ◌∷◌, ◌++◌, refl, sym, ap, subst, append_assoc, Option, Some, None, option_map, arith}
use Rattle.lin_term.specs.Terms.{LinearTerm}
use Rattle.path_cond.specs.Seen.{itself}
use Rattle.refutation_check.specs.Longer.{WidenFreely}
use Rattle.refutation_check.specs.declared.outcome.Verdict.{Verdict}
use Rattle.refutation_check.specs.declared.steps.Refute.{Refute}
use Rattle.path_solver.specs.Judged.{AreExact as VerdictsAreExact}
use Rattle.sefl_meaning.specs.declared.walk.Decision.{Decision}
use Rattle.sefl_meaning.specs.declared.walk.Place.{Place}
use Rattle.sefl_meaning.specs.declared.walk.End.{End}
use Rattle.sefl_meaning.specs.Courses.{Progress}
use Rattle.sefl_meaning.specs.Fields.{Fields, fields_of}
use Rattle.sefl_meaning.specs.Order.{BeginsWith, rank}
use Rattle.sefl_meaning.specs.Routes.{IsOpen, behind, places_on, route}
use Rattle.sefl_meaning.specs.Trees.{Tree, over}
use Rattle.exact_records.specs.Records.{Leads, RecordTree, SymRoute, SymStart, SymTree, condition_on, decisions_of, path, pruned, unexplored}
use Rattle.exact_records.specs.Exact.{IsGood, IsLeftBehind, IsTried, IsUnexplored}
use Rattle.exact_records.proofs.Lists.{append_nil, cancel, same_first, split_last}
use Rattle.exact_records.proofs.Arriving.{only_way}
use Rattle.path_questions.proofs.Growing.{TreeGrows}
use Rattle.one_list.specs.Same.{without_refutation}
use Rattle.one_list.proofs.Comparing.{Meets}
use Rattle.one_list.proofs.Judged.{one_verdict, verdict_open}
use Rattle.one_list.proofs.Refuted.{RefutedThere, refuted_there}

not_some : {A C : Type 0} (x : A) → None ≡ Some x → C
not_some x e = absurd (clash x e)
  where
    clash : {A : Type 0} (x : A) → None ≡ Some x → ⊥
    clash x e = cc

module _ {V F : Type 0} where
  same_progress : (p q : Progress V) (a b : End) → ◌≡◌ {A = Tree V F} (over p a) (over q b) → p ≡ q
  same_progress p q a b e = cc

  same_end : (p q : Progress V) (a b : End) → ◌≡◌ {A = Tree V F} (over p a) (over q b) → a ≡ b
  same_end p q a b e = cc

not_last : (ds : List Decision) (d : Decision) → [] ≡ ds ++ d ∷ [] → ⊥
not_last [] d e = cc
not_last (x ∷ ds) d e = let bad : [] ≡ x ∷ (ds ++ d ∷ []) = e in cc

module _ (verdicts : VerdictsAreExact itself) (widen : WidenFreely itself)
    (composed : (t : SymTree) (ds es : List Decision) (r : SymRoute) → route t ds ≡ Some r
    → route t (ds ++ es) ≡ option_map (behind r.arrivals r.tests) (route r.left es))
    (s : SymStart) (grows : TreeGrows [] s.tree) where
  there : (ds : List Decision) (before : Option Verdict) (refutation : List Refute) → IsGood s (pruned ds before refutation) → RefutedThere s ds
  there ds before refutation g = refuted_there widen composed s grows ds before refutation g.meaning g.verdict.1

  -- decisions of a record lead along a route
  pub good_open : (x : RecordTree) → IsGood s x → IsOpen s.tree (decisions_of x)
  good_open (path ds places end' fields verdict) g = (g.meaning.way, g.meaning.leads)
  good_open (pruned ds before refutation) g = let r = there ds before refutation g in (r.way, r.leads)
  good_open (unexplored ds) g = g.meaning

  -- ---- what was tried goes no further

  over_ends : (way : SymRoute) (p : Progress LinearTerm) (end' : End) → way.left ≡ over p end' → (ds : List Decision) (d : Decision) (rest : List Decision)
      → Leads s ds way → IsOpen s.tree (ds ++ d ∷ rest) → ⊥
  over_ends way p end' ended ds d rest leads opened =
      not_some opened.0
      (sym (composed s.tree ds (d ∷ rest) way leads
      ∙ ap (λ (t : SymTree). option_map (behind way.arrivals way.tests) (route t (d ∷ rest))) ended)
      ∙ opened.1)

  no_further : (x y : RecordTree) → IsGood s x → IsTried x → IsGood s y → (d : Decision) (rest : List Decision)
      → decisions_of y ≡ decisions_of x ++ d ∷ rest → ⊥
  no_further (path ds places end' fields verdict) y g tried k d rest e =
      over_ends g.meaning.way g.meaning.progress end' g.meaning.ended ds d rest g.meaning.leads (subst (IsOpen s.tree) e (good_open y k))
  no_further (pruned ds before refutation) y g tried k d rest e =
      let r = there ds before refutation g in
      k.unrefuted ds d rest e r.way r.leads r.refuted
  no_further (unexplored ds) y g tried k d rest e = absurd (tried tt)

  begun_is : (x y : RecordTree) → IsGood s x → IsTried x → IsGood s y → (rest : List Decision)
      → decisions_of x ++ rest ≡ decisions_of y → decisions_of x ≡ decisions_of y
  begun_is x y g tried k [] e = sym (append_nil (decisions_of x)) ∙ e
  begun_is x y g tried k (d ∷ rest) e = absurd (no_further x y g tried k d rest (sym e))

  pub same_decisions : (x y : RecordTree) → IsGood s x → IsTried x → IsGood s y → IsTried y → Meets (decisions_of x) (decisions_of y)
      → decisions_of x ≡ decisions_of y
  same_decisions x y g tried k also (inl b) = begun_is x y g tried k b.0 b.1
  same_decisions x y g tried k also (inr b) = sym (begun_is y x k also g b.0 b.1)

  -- ---- of the same decisions there is one record

  same_paths : (ds : List Decision) (ps qs : List Place) (a b : End) (xs ys : Fields LinearTerm) (v w : Verdict)
      → IsGood s (path ds ps a xs v) → IsGood s (path ds qs b ys w) → path ds ps a xs v ≡ path ds qs b ys w
  same_paths ds ps qs a b xs ys v w g k =
      let m = g.meaning in
      let n = k.meaning in
      let way = only_way s ds m.way n.way m.leads n.leads in
      let left : ◌≡◌ {A = SymTree} (over m.progress a) (over n.progress b) = sym m.ended ∙ (ap (λ (r : SymRoute). r.left) way ∙ n.ended) in
      let ends = same_end m.progress n.progress a b left in
      let progress = same_progress m.progress n.progress a b left in
      let places = sym m.places_are ∙ (ap (λ (r : SymRoute). places_on r) way ∙ n.places_are) in
      let fields = sym m.fields_are ∙ (ap (λ (p : Progress LinearTerm). fields_of p.state) progress ∙ n.fields_are) in
      let judged = one_verdict verdicts (condition_on s m.way) v w (g.verdict m.way m.leads) (k.verdict m.way m.leads) in
      λ i. path ds (places i) (ends i) (fields i) (judged i)

  path_open : (ds : List Decision) (ps : List Place) (a : End) (xs : Fields LinearTerm) (v : Verdict) → IsGood s (path ds ps a xs v) → RefutedThere s ds → ⊥
  path_open ds ps a xs v g r = verdict_open verdicts (condition_on s r.way) v (g.verdict r.way r.leads) r.refuted

  same_sides : (ds : List Decision) (a b : Option Verdict) (first second : List Refute)
      → IsGood s (pruned ds a first) → IsGood s (pruned ds b second) → a ≡ b
  same_sides ds None None first second g k = refl
  same_sides ds None (Some b) first second g k =
      absurd (not_last k.meaning.side.parent k.meaning.side.last (sym g.meaning.0 ∙ k.meaning.side.joined))
  same_sides ds (Some a) None first second g k =
      absurd (not_last g.meaning.side.parent g.meaning.side.last (sym k.meaning.0 ∙ g.meaning.side.joined))
  same_sides ds (Some a) (Some b) first second g k =
      let side = g.meaning.side in
      ap (λ (v : Verdict). Some v) (one_verdict verdicts (condition_on s side.way) a b (g.verdict.0 side) (k.verdict.0 side))

  pub same_record : (x y : RecordTree) → IsGood s x → IsTried x → IsGood s y → IsTried y → decisions_of x ≡ decisions_of y
      → without_refutation x ≡ without_refutation y
  same_record (unexplored ds) y g tried k also e = absurd (tried tt)
  same_record (path ds ps a xs v) (unexplored es) g tried k also e = absurd (also tt)
  same_record (pruned ds a first) (unexplored es) g tried k also e = absurd (also tt)
  same_record (path ds ps a xs v) (path es qs b ys w) g tried k also e =
      same_paths ds ps qs a b xs ys v w g (subst (λ q. IsGood s (path q qs b ys w)) (sym e) k) ∙ ap (λ q. path q qs b ys w) e
  same_record (path ds ps a xs v) (pruned es b second) g tried k also e =
      absurd (path_open ds ps a xs v g (subst (RefutedThere s) (sym e) (there es b second k)))
  same_record (pruned ds a first) (path es qs b ys w) g tried k also e =
      absurd (path_open es qs b ys w k (subst (RefutedThere s) e (there ds a first g)))
  same_record (pruned ds a first) (pruned es b second) g tried k also e =
      let before = same_sides ds a b first second g (subst (λ q. IsGood s (pruned q b second)) (sym e) k) in
      λ i. pruned (e i) (before i) []

  -- tried records whose decisions meet are one
  pub tried_are_one : (x y : RecordTree) → IsGood s x → IsTried x → IsGood s y → IsTried y → Meets (decisions_of x) (decisions_of y)
      → without_refutation x ≡ without_refutation y
  tried_are_one x y g tried k also meets = same_record x y g tried k also (same_decisions x y g tried k also meets)

-- ---- what is left behind

less_not_same : (c d : Decision) → rank c < rank d → d ≡ c → ⊥
less_not_same c d h e = let same : rank d ≡ rank c = ap rank e in omega (arith, h, same)

module _ (s : SymStart) (last : List Decision) where
  left_begun : (ds es : List Decision) → IsLeftBehind s last ds → IsLeftBehind s last es → BeginsWith ds es → ds ≡ es
  left_begun ds es a b begun =
      let joined : b.parent ++ b.other ∷ [] ≡ a.parent ++ a.other ∷ begun.0 =
      sym b.is ∙ (sym begun.1 ∙ (ap (λ q. q ++ begun.0) a.is ∙ append_assoc a.parent (a.other ∷ []) begun.0)) in
      elim (split_last b.parent b.other a.other a.parent begun.0 joined) [
        | inl k ↦ a.is ∙ ((λ i. k.0 i ++ k.1 i ∷ []) ∙ sym b.is)
        | inr k ↦
            let along : a.parent ++ a.taken ∷ a.rest ≡ a.parent ++ a.other ∷ (k.0 ++ b.taken ∷ b.rest) =
            sym a.along ∙ (b.along ∙ (ap (λ q. q ++ b.taken ∷ b.rest) k.1 ∙ append_assoc a.parent (a.other ∷ k.0) (b.taken ∷ b.rest))) in
            absurd (less_not_same a.taken a.other a.later
            (sym (same_first (cancel a.parent (a.taken ∷ a.rest) (a.other ∷ (k.0 ++ b.taken ∷ b.rest)) along))))
      ]

  pub left_is_one : (ds es : List Decision) → IsLeftBehind s last ds → IsLeftBehind s last es → Meets ds es → ds ≡ es
  left_is_one ds es a b (inl h) = left_begun ds es a b h
  left_is_one ds es a b (inr h) = sym (left_begun es ds b a h)

pub same_left : (x y : RecordTree) → IsUnexplored x → IsUnexplored y → decisions_of x ≡ decisions_of y → without_refutation x ≡ without_refutation y
same_left (path ds ps a xs v) y h k e = absurd h
same_left (pruned ds a first) y h k e = absurd h
same_left (unexplored ds) (path es qs b ys w) h k e = absurd k
same_left (unexplored ds) (pruned es b second) h k e = absurd k
same_left (unexplored ds) (unexplored es) h k e = ap (λ (q : List Decision). unexplored q) e
