-- The obligations of a node, and the next of them.
use Rattle.std.proofs.Common.{◌≡◌, ℕ, zero, suc, ◌+◌, ◌<◌, ◌≤◌, inl, inr, true, false, List, [], ◌∷◌, ◌++◌, reverse, refl, sym, ap, subst, ◌∙◌, arith, Some, option_map}
use Rattle.std.specs.List.{AllByRecursion, flat_map}
use Rattle.std.proofs.lemmas.List.{reverse-append}
use Rattle.lin_term.specs.Terms.{LinearTerm}
use Rattle.path_formula.specs.Formulas.{FormulaTree}
use Rattle.refutation_check.specs.declared.outcome.Verdict.{Verdict}
use Rattle.sefl_meaning.specs.declared.walk.Decision.{Decision}
use Rattle.sefl_meaning.specs.Courses.{at_if, at_constrain, Progress}
use Rattle.sefl_meaning.specs.Trees.{tests, splits, Copies, no_copies, copy_and}
use Rattle.exact_records.specs.Records.{SymTree}
use Rattle.exact_records.specs.Points.{Point, Obligation, decided, copied, copy_at, copy_obligations, sided}
use Rattle.path_exec.specs.declared.engine.Offer.{Offer}
use Rattle.path_exec.specs.declared.engine.Offer.TheVariants.{If, Constrain, Fork}
use Rattle.path_exec.specs.declared.opening.OpenNode.{OpenNode}
use Rattle.exact_records.specs.Work.{begun_at}
use Rattle.path_exec.specs.Location.{behind_last, point_at, waiting_at}
use Rattle.path_exec.specs.Views.{Views}
use Rattle.path_exec.specs.Offers.{IsNode, IsOffered, copy_count, known_behind, next_by, next_point, offer_at, offer_count, skip, obligations_by, obligations_left}
use Rattle.path_exec.specs.OpenNodes.{AreOpenNodes, IsFound, IsPut, IsOpenNode, all_obligations, obligations_of}
use Rattle.path_exec.proofs.Ways.{placed}

-- ---- the copies of a fork

-- the copy of this number, with its obligation behind those of the copies before it
pub record IsCopyAt (b : Point) (verdict : Verdict) (first n : ℕ) (branches : Copies LinearTerm FormulaTree) : Type 0 where
  pub tree : SymTree
  pub at : copy_at branches n ≡ Some tree
  pub obligations : skip n (copy_obligations b verdict first branches)
      ≡ (copied b (first + n) tree, decided verdict) ∷ skip (suc n) (copy_obligations b verdict first branches)

copy_there : (b : Point) (verdict : Verdict) (first n : ℕ) (branches : Copies LinearTerm FormulaTree) → n < copy_count branches → IsCopyAt b verdict first n branches
copy_there b verdict first n no_copies h = absurd (omega (arith, h))
copy_there b verdict first zero (copy_and t branches) h = record {
  tree = t;
  at = refl;
  obligations = let e : first ≡ first + 0 = omega arith in ap (λ (n : ℕ). (copied b n t, decided verdict) ∷ copy_obligations b verdict (suc first) branches) e;
}
copy_there b verdict first (suc n) (copy_and t branches) h =
    let r = copy_there b verdict (suc first) n branches (omega (arith, h)) in
    let e : suc first + n ≡ first + suc n = omega arith in
    record {
      tree = r.tree;
      at = r.at;
      obligations = r.obligations ∙ ap (λ (m : ℕ). (copied b m r.tree, decided verdict) ∷ skip (suc n) (copy_obligations b verdict (suc first) branches)) e;
    }

copies_past : (b : Point) (verdict : Verdict) (first n : ℕ) (branches : Copies LinearTerm FormulaTree) → copy_count branches ≤ n → skip n (copy_obligations b verdict first branches) ≡ []
copies_past b verdict first zero no_copies h = refl
copies_past b verdict first (suc n) no_copies h = refl
copies_past b verdict first zero (copy_and t branches) h = absurd (omega (arith, h))
copies_past b verdict first (suc n) (copy_and t branches) h = copies_past b verdict (suc first) n branches (omega (arith, h))

-- ---- the decisions of a node

-- the point behind the next decision, whose obligation comes first
pub record IsTaken (offer : Offer) (b : Point) (verdict : Verdict) (n : ℕ) (t : SymTree) : Type 0 where
  pub point : Point
  pub next : next_by t b (offer_at offer n) ≡ Some point
  pub decisions : point.decisions ≡ b.decisions ++ offer_at offer n ∷ []
  pub widths : point.widths ≡ b.widths
  pub obligations : skip n (obligations_by t b verdict) ≡ (point, known_behind offer verdict) ∷ skip (suc n) (obligations_by t b verdict)

if_taken : (b : Point) (verdict : Verdict) (n : ℕ) (p : Progress LinearTerm) (test : FormulaTree) (held broken : SymTree) → n < 2 → IsTaken If b verdict n (tests at_if p test held broken)
if_taken b verdict zero p test held broken h =
    record { point = sided b at_if test true held; next = refl; decisions = refl; widths = refl; obligations = refl }
if_taken b verdict (suc zero) p test held broken h =
    record { point = sided b at_if test false broken; next = refl; decisions = refl; widths = refl; obligations = refl }
if_taken b verdict (suc (suc n)) p test held broken h = absurd (omega (arith, h))

constrain_taken : (b : Point) (verdict : Verdict) (n : ℕ) (p : Progress LinearTerm) (test : FormulaTree) (held broken : SymTree) → n < 2
    → IsTaken Constrain b verdict n (tests at_constrain p test held broken)
constrain_taken b verdict zero p test held broken h =
    record { point = sided b at_constrain test true held; next = refl; decisions = refl; widths = refl; obligations = refl }
constrain_taken b verdict (suc zero) p test held broken h =
    record { point = sided b at_constrain test false broken; next = refl; decisions = refl; widths = refl; obligations = refl }
constrain_taken b verdict (suc (suc n)) p test held broken h = absurd (omega (arith, h))

copy_taken : (b : Point) (verdict : Verdict) (count n : ℕ) (p : Progress LinearTerm) (branches : Copies LinearTerm FormulaTree) → n < copy_count branches
    → IsTaken (Fork count) b verdict n (splits p branches)
copy_taken b verdict count n p branches h =
    let r = copy_there b verdict 0 n branches h in
    let e : 0 + n ≡ n = omega arith in
    record {
      point = copied b n r.tree;
      next = ap (option_map (copied b n)) r.at;
      decisions = refl;
      widths = refl;
      obligations = r.obligations ∙ ap (λ (m : ℕ). (copied b m r.tree, decided verdict) ∷ skip (suc n) (copy_obligations b verdict 0 branches)) e;
    }

pub next_taken : (offer : Offer) (b : Point) (verdict : Verdict) (n : ℕ) → IsNode offer b.tree → n < offer_count offer → IsTaken offer b verdict n b.tree
next_taken If b verdict n h less = subst (IsTaken If b verdict n) (sym h.is) (if_taken b verdict n h.progress h.test h.held h.broken less)
next_taken Constrain b verdict n h less = subst (IsTaken Constrain b verdict n) (sym h.is) (constrain_taken b verdict n h.progress h.test h.held h.broken less)
next_taken (Fork count) b verdict n h less =
    subst (IsTaken (Fork count) b verdict n) (sym h.is) (copy_taken b verdict count n h.progress h.branches (subst (λ (m : ℕ). n < m) h.counted less))

two_past : {A : Type 0} (x y : A) (n : ℕ) → 2 ≤ n → skip n (x ∷ y ∷ []) ≡ []
two_past x y zero h = absurd (omega (arith, h))
two_past x y (suc zero) h = absurd (omega (arith, h))
two_past x y (suc (suc zero)) h = refl
two_past x y (suc (suc (suc n))) h = refl

-- nothing is left behind the last decision
pub none_left : (offer : Offer) (b : Point) (verdict : Verdict) (n : ℕ) → IsNode offer b.tree → offer_count offer ≤ n → obligations_left b verdict n ≡ []
none_left If b verdict n h past = ap (λ (t : SymTree). skip n (obligations_by t b verdict)) h.is ∙ two_past _ _ n past
none_left Constrain b verdict n h past = ap (λ (t : SymTree). skip n (obligations_by t b verdict)) h.is ∙ two_past _ _ n past
none_left (Fork count) b verdict n h past =
    ap (λ (t : SymTree). skip n (obligations_by t b verdict)) h.is ∙ copies_past b verdict 0 n h.branches (subst (λ (m : ℕ). m ≤ n) h.counted past)

-- ---- the stack

module _ {P O N D T : Type 0} (x : Views P O N D T) where
  top_first : (open_nodes : List (OpenNode N D)) (w : OpenNode N D) → all_obligations x (open_nodes ++ w ∷ []) ≡ obligations_of x w ++ all_obligations x open_nodes
  top_first open_nodes w = ap (flat_map (obligations_of x)) (reverse-append open_nodes (w ∷ []))

  pub popped_obligations : (old rest : List (OpenNode N D)) (w : OpenNode N D) → old ≡ rest ++ w ∷ [] → all_obligations x old ≡ obligations_of x w ++ all_obligations x rest
  popped_obligations old rest w e = ap (all_obligations x) e ∙ top_first rest w

  pub popped_open_nodes : (old rest : List (OpenNode N D)) (w : OpenNode N D) → old ≡ rest ++ w ∷ [] → AreOpenNodes x old → IsOpenNode x w × AreOpenNodes x rest
  popped_open_nodes old rest w e h = subst (AllByRecursion (IsOpenNode x)) (ap reverse e ∙ reverse-append rest (w ∷ [])) h

  pub put_obligations : (w : OpenNode N D) (before after : List (OpenNode N D)) → IsFound x w → IsPut w before after → all_obligations x after ≡ obligations_of x w ++ all_obligations x before
  put_obligations w before after found (inl h) = ap (all_obligations x) h.1 ∙ top_first before w
  put_obligations w before after found (inr h) =
      ap (all_obligations x) h.1
      ∙ ap (λ ts. ts ++ all_obligations x before) (sym (none_left w.offer (waiting_at x.start (x.node_at w.node)) (x.verdict_of w.finding.value) w.taken found.node h.0))

  pub put_open_nodes : (w : OpenNode N D) (before after : List (OpenNode N D)) → IsFound x w → IsPut w before after → AreOpenNodes x before → AreOpenNodes x after
  put_open_nodes w before after found (inl h) all =
      subst (AllByRecursion (IsOpenNode x)) (sym (ap reverse h.1 ∙ reverse-append before (w ∷ []))) (record { found = found; left = h.0 }, all)
  put_open_nodes w before after found (inr h) all = subst (AreOpenNodes x) (sym h.1) all

  -- ---- the next decision of a node on it

  pub next_of : (w : OpenNode N D) → IsOpenNode x w
      → IsTaken w.offer (waiting_at x.start (x.node_at w.node)) (x.verdict_of w.finding.value) w.taken (waiting_at x.start (x.node_at w.node)).tree
  next_of w h = next_taken w.offer (waiting_at x.start (x.node_at w.node)) (x.verdict_of w.finding.value) w.taken h.found.node h.left

  -- what is left with the next decision first, where the rest was put back
  pub split_obligations : (w : OpenNode N D) (old mid : List (OpenNode N D)) (h : IsOpenNode x w) → IsPut (record w { taken = suc w.taken }) old mid
      → obligations_of x w ++ all_obligations x old ≡ ((next_of w h).point, known_behind w.offer (x.verdict_of w.finding.value)) ∷ all_obligations x mid
  split_obligations w old mid h put =
      ap (λ (ts : List Obligation). ts ++ all_obligations x old) (next_of w h).obligations
      ∙ ap (λ (ts : List Obligation). ((next_of w h).point, known_behind w.offer (x.verdict_of w.finding.value)) ∷ ts)
      (sym (put_obligations (record w { taken = suc w.taken }) old mid (record { node = h.found.node; known = h.found.known }) put))

  pub put_back_open_nodes : (w : OpenNode N D) (old mid : List (OpenNode N D)) → IsOpenNode x w → IsPut (record w { taken = suc w.taken }) old mid → AreOpenNodes x old → AreOpenNodes x mid
  put_back_open_nodes w old mid h put = put_open_nodes (record w { taken = suc w.taken }) old mid (record { node = h.found.node; known = h.found.known }) put

  -- the next decision is offered
  pub offered_next : (w : OpenNode N D) → IsOpenNode x w → (d : Decision) → d ≡ offer_at w.offer w.taken → IsOffered (x.node_at w.node) d
  offered_next w h d e = (
    begun_at x.start.tree (x.node_at w.node).decisions,
    (next_of w h).point,
    subst (λ (c : Decision). next_point (waiting_at x.start (x.node_at w.node)) c ≡ Some (next_of w h).point) (sym e) (next_of w h).next,
  )

  -- what holds wherever the decision leads
  pub there_next : (w : OpenNode N D) (h : IsOpenNode x w) (d : Decision) (Holds : ℕ → Point → Type 0) → d ≡ offer_at w.offer w.taken
      → ((begun : ℕ) (c : Point) → next_point (point_at begun (x.node_at w.node)) d ≡ Some c → Holds begun c)
      → Holds (begun_at x.start.tree (x.node_at w.node).decisions) (next_of w h).point
  there_next w h d Holds e f =
      f (begun_at x.start.tree (x.node_at w.node).decisions) (next_of w h).point
      (subst (λ (c : Decision). next_point (waiting_at x.start (x.node_at w.node)) c ≡ Some (next_of w h).point) (sym e) (next_of w h).next)

  -- a place there stands behind the decision
  pub placed_next : (w : OpenNode N D) (h : IsOpenNode x w) (place : P) → point_at (begun_at x.start.tree (x.node_at w.node).decisions) (x.place_at place) ≡ (next_of w h).point
      → behind_last x.start (x.place_at place) ≡ (next_of w h).point
  placed_next w h place e = placed x w.node (offer_at w.offer w.taken) place (next_of w h).point e (next_of w h).decisions

  -- the decisions of such a place
  pub next_course : (w : OpenNode N D) (h : IsOpenNode x w) (place : P) (d : Decision) (course : List Decision) → behind_last x.start (x.place_at place) ≡ (next_of w h).point
      → d ≡ offer_at w.offer w.taken → course ≡ (x.node_at w.node).decisions ++ d ∷ [] → course ≡ (x.place_at place).decisions
  next_course w h place d course e is turned =
      turned ∙ (ap (λ (c : Decision). (x.node_at w.node).decisions ++ c ∷ []) is ∙ (sym (next_of w h).decisions ∙ sym (ap (λ (a : Point). a.decisions) e)))
