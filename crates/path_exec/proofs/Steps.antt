-- What each step of the exploration keeps.
use Rattle.std.proofs.Common.{◌≡◌, ℕ, suc, ◌+◌, ◌<◌, ◌≤◌, List, [], ◌∷◌, ◌++◌, length, refl, sym, ap, subst, ◌∙◌, arith, Option, Some, None}
use Rattle.std.specs.List.{AllByRecursion}
use Rattle.lin_term.specs.Terms.{LinearTerm}
use Rattle.path_formula.specs.Formulas.{FormulaTree}
use Rattle.path_cond.specs.Seen.{AllTyped, itself}
use Rattle.refutation_check.specs.declared.outcome.Verdict.{Verdict}
use Rattle.refutation_check.specs.declared.steps.Refute.{Refute}
use Rattle.sefl_meaning.specs.declared.walk.Decision.{Decision}
use Rattle.sefl_meaning.specs.declared.walk.Decision.TheVariants.{Then, Else, Pass, Broken, Copy}
use Rattle.sefl_meaning.specs.Courses.{at_if, at_constrain, Progress}
use Rattle.sefl_meaning.specs.Trees.{Tree, over, arrives, tests, splits, Copies, no_copies, copy_and}
use Rattle.sefl_meaning.specs.Routes.{Splits}
use Rattle.sefl_meaning.specs.Fields.{fields_of}
use Rattle.exact_records.specs.Records.{IsFoundRefuted, IsVerdictOn, RecordTree, SymStart, SymTree, decisions_of, path, pruned}
use Rattle.exact_records.specs.Exact.{IsTried}
use Rattle.exact_records.specs.Points.{Arrives, IsAt, IsKnown, IsPending, Known, Point, Stands, Obligation, condition_at, copy_obligations, decided, filled_verdict, first_point, node_of, to_decide}
use Rattle.exact_records.specs.Work.{at_last, begun_at, count_of}
use Rattle.exact_records.specs.Laws.{StandingIsExact, StepsStand, VerdictsStay}
use Rattle.exact_records.proofs.Lists.{append_nil}
use Rattle.path_exec.specs.declared.engine.Offer.{Offer}
use Rattle.path_exec.specs.declared.engine.Offer.TheVariants.{If, Constrain, Fork}
use Rattle.path_exec.specs.declared.engine.Next.TheVariants.{AtEnd, AtNode}
use Rattle.path_exec.specs.declared.opening.OpenNode.{OpenNode}
use Rattle.path_exec.specs.Following.{IsLed}
use Rattle.path_exec.specs.Location.{Location, behind_last, point_at, waiting_at}
use Rattle.path_exec.specs.Views.{IsMade, Views}
use Rattle.path_exec.specs.Offers.{IsNode, copy_count, known_behind, offer_at, offer_count, skip, obligations_by}
use Rattle.path_exec.specs.Moves.{Advances, ComesTo}
use Rattle.path_exec.specs.Trials.{IsPathOf}
use Rattle.path_exec.specs.OpenNodes.{AreOpenNodes, IsFork, IsFound, IsPut, IsOpenNode, all_obligations, obligations_of}
use Rattle.path_exec.specs.Paying.{Holds, begun_before}
use Rattle.path_exec.specs.Keeping.{Keeps, weight, weight_of, weights}
use Rattle.path_exec.proofs.Guiding.{led_to}
use Rattle.path_exec.proofs.Ways.{begun_next}
use Rattle.path_exec.proofs.Splitting.{splits_there}
use Rattle.path_exec.proofs.Taking.{next_of, next_taken, put_back_open_nodes, put_obligations, put_open_nodes, split_obligations}
use Rattle.path_exec.proofs.Counting.{AreBehind, IsPaidFor, holds_decided, holds_made, holds_opened}

-- ---- weights

module _ {V F : Type 0} where
  node_weight : (t : Tree V F) → weight (node_of t) ≤ weight t
  node_weight (over p end') = omega arith
  node_weight (arrives place p t) = let h = node_weight t in omega (arith, h)
  node_weight (tests asking p test held broken) = omega arith
  node_weight (splits p branches) = omega arith

  some_weight : (t : Tree V F) → 0 < weight t
  some_weight (over p end') = omega arith
  some_weight (arrives place p t) = omega arith
  some_weight (tests asking p test held broken) = omega arith
  some_weight (splits p branches) = omega arith

weights_append : (xs ys : List Obligation) → weights (xs ++ ys) ≡ weights xs + weights ys
weights_append [] ys = omega arith
weights_append (z ∷ xs) ys = let h = weights_append xs ys in omega (arith, h)

copies_weight : (b : Point) (verdict : Verdict) (number : ℕ) (branches : Copies LinearTerm FormulaTree) → weights (copy_obligations b verdict number branches) ≡ weight_of branches
copies_weight b verdict number no_copies = refl
copies_weight b verdict number (copy_and t branches) = let h = copies_weight b verdict (suc number) branches in omega (arith, h)

obligations_weight : (offer : Offer) (b : Point) (verdict : Verdict) (t : SymTree) → IsNode offer t → suc (weights (obligations_by t b verdict)) ≡ weight t
obligations_weight If b verdict t h =
    let e : weight t ≡ suc (weight h.held + weight h.broken) = ap (λ (u : SymTree). weight u) h.is in
    let k : weights (obligations_by t b verdict) ≡ weight h.held + (weight h.broken + 0) = ap (λ (u : SymTree). weights (obligations_by u b verdict)) h.is in
    omega (arith, e, k)
obligations_weight Constrain b verdict t h =
    let e : weight t ≡ suc (weight h.held + weight h.broken) = ap (λ (u : SymTree). weight u) h.is in
    let k : weights (obligations_by t b verdict) ≡ weight h.held + (weight h.broken + 0) = ap (λ (u : SymTree). weights (obligations_by u b verdict)) h.is in
    omega (arith, e, k)
obligations_weight (Fork count) b verdict t h =
    let e : weight t ≡ suc (weight_of h.branches) = ap (λ (u : SymTree). weight u) h.is in
    let k : weights (obligations_by t b verdict) ≡ weights (copy_obligations b verdict 0 h.branches) = ap (λ (u : SymTree). weights (obligations_by u b verdict)) h.is in
    let c = copies_weight b verdict 0 h.branches in
    omega (arith, e, k, c)

-- ---- all obligations of a node

copies_behind : (b : Point) (verdict : Verdict) (number : ℕ) (branches : Copies LinearTerm FormulaTree)
    → AreBehind b.decisions (copy_obligations b verdict number branches)
copies_behind b verdict number no_copies = tt
copies_behind b verdict number (copy_and t branches) = ((Copy number, refl), copies_behind b verdict (suc number) branches)

obligations_behind : (offer : Offer) (b : Point) (verdict : Verdict) (t : SymTree) → IsNode offer t
    → AreBehind b.decisions (obligations_by t b verdict)
obligations_behind If b verdict t h = subst (λ (u : SymTree). AreBehind b.decisions (obligations_by u b verdict)) (sym h.is) ((Then, refl), ((Else, refl), tt))
obligations_behind Constrain b verdict t h = subst (λ (u : SymTree). AreBehind b.decisions (obligations_by u b verdict)) (sym h.is) ((Pass, refl), ((Broken, refl), tt))
obligations_behind (Fork count) b verdict t h = subst (λ (u : SymTree). AreBehind b.decisions (obligations_by u b verdict)) (sym h.is) (copies_behind b verdict 0 h.branches)

-- a split has a copy
some_copy : (p : Progress LinearTerm) (branches : Copies LinearTerm FormulaTree) → Splits (splits p branches) → 0 < copy_count branches
some_copy p no_copies h = absurd h.0
some_copy p (copy_and t branches) h = omega arith

some_offered : (offer : Offer) (t : SymTree) → IsNode offer t → Splits t → 0 < offer_count offer
some_offered If t h k = omega arith
some_offered Constrain t h k = omega arith
some_offered (Fork count) t h k =
    let c = some_copy h.progress h.branches (subst (λ (u : SymTree). Splits u) h.is k) in
    let e = h.counted in
    omega (arith, c, e)

-- a verdict that was just given
pub known_now : (s : SymStart) (c : Point) (verdict : Verdict) → AllTyped itself c.widths (condition_at s c).entries → IsVerdictOn (condition_at s c) verdict
    → IsKnown (condition_at s c) verdict
known_now s c verdict typed is = record { first = c.widths; more = []; widths = sym (append_nil c.widths); typed = typed; is = is }

-- ---- no decision is taken where a run goes on

module _ {P O N D T : Type 0} (x : Views P O N D T) where
  pub over_behind : (h : Location) (o : O) (before after : ℕ) → Advances x h before after (AtEnd o) → (x.over_at o).decisions ≡ h.decisions
  over_behind h o before after adv = (adv.goes 0).0.arrives.decisions

  pub came_behind : (h : Location) (n : N) (offer : Offer) (before after : ℕ) → Advances x h before after (AtNode n offer) → (x.node_at n).decisions ≡ h.decisions
  came_behind h n offer before after adv = (adv.goes 0).0.arrives.decisions

-- ---- steps

module _ {P O N D T : Type 0} (x : Views P O N D T) (below : StepsStand x.start) (stay : VerdictsStay x.start) (exact : StandingIsExact x.start) where
  abbrev At : List Decision → ℕ
  At = begun_at x.start.tree

  -- a record of the first obligation keeps what holds, and is paid for
  keeps_made : (obligation : Obligation) (open_nodes new : List (OpenNode N D)) (made : T) (y : RecordTree) (before after raised : ℕ) → after ≡ before + raised → IsMade x y made → IsTried y
      → decisions_of y ≡ obligation.0.decisions → raised + begun_before x.start obligation ≡ count_of At y
      → ((limit : ℕ) (done : List RecordTree) → length done < limit → Stands x.start limit done (obligation ∷ all_obligations x new)
      → Stands x.start limit (done ++ y ∷ []) (all_obligations x new))
      → (now : List Obligation) → now ++ all_obligations x open_nodes ≡ obligation ∷ all_obligations x new → (AreOpenNodes x open_nodes → AreOpenNodes x new)
      → Keeps x now open_nodes new (Some made) before after
  keeps_made obligation open_nodes new made y before after raised counted is tried same e step now obligations kept =
      let paid : (limit : ℕ) (done : List RecordTree) (count : ℕ) → length done < limit → Holds x.start limit done (now ++ all_obligations x open_nodes) count
      → IsPaidFor x.start exact limit done (x.record_of made) (all_obligations x new) (count + raised) =
      λ limit done count less h.
      let k = subst (λ ts. Holds x.start limit done ts count) obligations h in
      subst (λ (z : RecordTree). IsPaidFor x.start exact limit done z (all_obligations x new) (count + raised)) (sym is.is)
      (holds_made x.start exact limit done obligation (all_obligations x new) y count raised k (step limit done less k.stands) same e) in
      record {
        raised = raised;
        counted = counted;
        holds = λ limit done count less h. (paid limit done count less h).holds;
        spent = λ limit done count less h z q. (paid limit done count less h).spent;
        open_nodes = kept;
        tried = (subst IsTried (sym is.is) tried, tt);
        own = is.own;
        falls =
            let w = some_weight obligation.0.tree in
            let t : weights (now ++ all_obligations x open_nodes) ≡ weight obligation.0.tree + weights (all_obligations x new) = ap weights obligations in
            omega (arith, w, t);
      }

  -- the run is over
  pub keeps_path : (h : Location) (o : O) (verdict : Verdict) (made : T) (open_nodes : List (OpenNode N D)) (before after : ℕ) → IsAt x.start (behind_last x.start h)
      → Advances x h before after (AtEnd o)
      → ((begun : ℕ) → IsLed x.start (x.over_at o).decisions (point_at begun (x.over_at o)) → IsPathOf x (point_at begun (x.over_at o)) verdict made)
      → Keeps x ((behind_last x.start h, decided verdict) ∷ []) open_nodes open_nodes (Some made) before after
  keeps_path h o verdict made open_nodes before after at adv is =
      let b0 = at_last At h.decisions in
      let a = behind_last x.start h in
      let c = point_at (b0 + adv.raised) (x.over_at o) in
      let n = adv.goes b0 in
      let e = n.1 in
      let y = path c.decisions c.places e.end' (fields_of e.progress.state) (filled_verdict (length c.widths) verdict) in
      let here = begun_next x.start a c (b0 + adv.raised) at n.0 in
      let led = subst (λ (ds : List Decision). IsLed x.start ds c) (sym n.0.arrives.decisions) (led_to x a c (b0 + adv.raised) at n.0).led in
      keeps_made (a, decided verdict) open_nodes open_nodes made y before after adv.raised adv.counted (is (b0 + adv.raised) led e.progress e.end' e.is) (λ k. k)
      n.0.arrives.decisions (omega (arith, here))
      (λ limit done less st. below.ends limit done a c verdict (filled_verdict (length c.widths) verdict) e.progress e.end' (all_obligations x open_nodes) less n.0.arrives e.is
      (stay.written (condition_at x.start c) verdict (stay.next a c verdict n.0.arrives st.pending.0.found)) st)
      ((a, decided verdict) ∷ []) refl (λ w. w)

  -- a node's obligations stand for what comes of it
  stands_node : (limit : ℕ) (done : List RecordTree) (a b : Point) (offer : Offer) (verdict : Verdict) (rest : List Obligation) → length done < limit → Arrives x.start a b
      → IsNode offer b.tree → Stands x.start limit done ((a, decided verdict) ∷ rest) → Stands x.start limit done (obligations_by b.tree b verdict ++ rest)
  stands_node limit done a b If verdict rest less n h st =
      subst (λ (t : SymTree). Stands x.start limit done (obligations_by t b verdict ++ rest)) (sym h.is) (below.asks limit done a b verdict at_if h.progress h.test h.held h.broken rest less n h.is st)
  stands_node limit done a b Constrain verdict rest less n h st =
      subst (λ (t : SymTree). Stands x.start limit done (obligations_by t b verdict ++ rest)) (sym h.is) (below.asks limit done a b verdict at_constrain h.progress h.test h.held h.broken rest less n h.is st)
  stands_node limit done a b (Fork count) verdict rest less n h st =
      subst (λ (t : SymTree). Stands x.start limit done (obligations_by t b verdict ++ rest)) (sym h.is) (below.forks limit done a b verdict h.progress h.branches rest less n h.is st)

  holds_node : (limit : ℕ) (done : List RecordTree) (a b : Point) (offer : Offer) (verdict : Verdict) (rest : List Obligation) (count steps begun : ℕ) → length done < limit
      → ComesTo x.start begun a b → At b.decisions ≡ begun → steps + begun_before x.start (a, decided verdict) ≡ begun → IsNode offer b.tree → 0 < offer_count offer
      → Holds x.start limit done ((a, decided verdict) ∷ rest) count → Holds x.start limit done (obligations_by b.tree b verdict ++ rest) (count + steps)
  holds_node limit done a b offer verdict rest count steps begun less n here e node some h =
      let k = next_taken offer b verdict 0 node some in
      let more = skip 1 (obligations_by b.tree b verdict) in
      let is : obligations_by b.tree b verdict ≡ (k.point, known_behind offer verdict) ∷ more = k.obligations in
      let same : b.decisions ≡ a.decisions = n.arrives.decisions in
      subst (λ (ts : List Obligation). Holds x.start limit done (ts ++ rest) (count + steps)) (sym is)
      (holds_opened x.start exact limit done (a, decided verdict) (k.point, known_behind offer verdict) more rest count steps begun h
      (subst (λ (ts : List Obligation). Stands x.start limit done (ts ++ rest)) is (stands_node limit done a b offer verdict rest less n.arrives node h.stands))
      (subst (λ (ts : List Obligation). AreBehind a.decisions ts) is (subst (λ (ds : List Decision). AreBehind ds (obligations_by b.tree b verdict)) same (obligations_behind offer b verdict b.tree node)))
      (ap At (sym same) ∙ here) e)

  -- what is known of a node that a run came to
  pub record IsReached (h : Location) (w : OpenNode N D) (raised : ℕ) : Type 0 where
    pub come : ComesTo x.start (at_last At h.decisions + raised) (behind_last x.start h) (waiting_at x.start (x.node_at w.node))
    pub here : At (x.node_at w.node).decisions ≡ at_last At h.decisions + raised
    pub node : IsNode w.offer (waiting_at x.start (x.node_at w.node)).tree

  reached : (h : Location) (w : OpenNode N D) (before after : ℕ) → IsAt x.start (behind_last x.start h) → (adv : Advances x h before after (AtNode w.node w.offer)) → IsReached h w adv.raised
  reached h w before after at adv =
      let b0 = at_last At h.decisions in
      let n = adv.goes b0 in
      let here = begun_next x.start (behind_last x.start h) (point_at (b0 + adv.raised) (x.node_at w.node)) (b0 + adv.raised) at n.0 in
      record {
        come = subst (λ (m : ℕ). ComesTo x.start (b0 + adv.raised) (behind_last x.start h) (point_at m (x.node_at w.node))) (sym here) n.0;
        here = here;
        node = subst (λ (m : ℕ). IsNode w.offer ((x.node_at w.node).tree m)) (sym here) n.1;
      }

  -- the run waits at a node
  pub keeps_node : (h : Location) (w : OpenNode N D) (old new : List (OpenNode N D)) (before after : ℕ) → Splits x.start.tree → IsAt x.start (behind_last x.start h)
      → IsKnown (condition_at x.start (behind_last x.start h)) (x.verdict_of w.finding.value) → Advances x h before after (AtNode w.node w.offer) → w.taken ≡ 0 → IsPut w old new
      → Keeps x ((behind_last x.start h, decided (x.verdict_of w.finding.value)) ∷ []) old new None before after
  keeps_node h w old new before after spl at known adv none put =
      let a = behind_last x.start h in
      let b = waiting_at x.start (x.node_at w.node) in
      let v = x.verdict_of w.finding.value in
      let r = reached h w before after at adv in
      let found : IsFound x w = record { node = r.node; known = stay.next a b v r.come.arrives known } in
      let obligations : all_obligations x new ≡ obligations_by b.tree b v ++ all_obligations x old =
      put_obligations x w old new found put ∙ ap (λ (n : ℕ). skip n (obligations_by b.tree b v) ++ all_obligations x old) none in
      let there : Splits b.tree = subst (λ (t : SymTree). Splits t) (sym r.come.arrives.tree) (splits_there x.start a spl at) in
      record {
        raised = adv.raised;
        counted = adv.counted;
        holds = λ limit done count less st.
            subst (λ (rs : List RecordTree). Holds x.start limit rs (all_obligations x new) (count + adv.raised)) (sym (append_nil done))
            (subst (λ (ts : List Obligation). Holds x.start limit done ts (count + adv.raised)) (sym obligations)
            (holds_node limit done a b w.offer v (all_obligations x old) count adv.raised (at_last At h.decisions + adv.raised) less r.come r.here (omega arith) r.node
            (some_offered w.offer b.tree r.node there) st));
        spent = λ limit done count less st z q. absurd (no_record z q);
        open_nodes = put_open_nodes x w old new found put;
        tried = tt;
        own = tt;
        falls =
            let n = node_weight a.tree in
            let e : weight b.tree ≡ weight (node_of a.tree) = ap (λ (t : SymTree). weight t) r.come.arrives.tree in
            let k = obligations_weight w.offer b v b.tree r.node in
            let m : weights (all_obligations x new) ≡ weights (obligations_by b.tree b v ++ all_obligations x old) = ap weights obligations in
            let l = weights_append (obligations_by b.tree b v) (all_obligations x old) in
            omega (arith, n, e, k, m, l);
      }
    where
      no_record : (z : T) → None ≡ Some z → ⊥
      no_record z q = cc

  -- ---- the next decision of a node

  asks_known : (offer : Offer) (verdict : Verdict) → (IsFork offer → ⊥) → known_behind offer verdict ≡ to_decide (Some verdict)
  asks_known If verdict h = refl
  asks_known Constrain verdict h = refl
  asks_known (Fork count) verdict h = absurd (h tt)

  pub forks_known : (offer : Offer) (verdict : Verdict) → IsFork offer → known_behind offer verdict ≡ decided verdict
  forks_known If verdict h = absurd h
  forks_known Constrain verdict h = absurd h
  forks_known (Fork count) verdict h = refl

  -- what a run may go on from
  pub record IsOpened (place : P) (verdict : Verdict) : Type 0 where
    pub at : IsAt x.start (behind_last x.start (x.place_at place))
    pub known : IsKnown (condition_at x.start (behind_last x.start (x.place_at place))) verdict

  next_pends : (w : OpenNode N D) (h : IsOpenNode x w) → AllByRecursion (λ (obligation : Obligation). IsPending x.start obligation.0 obligation.1) (obligations_of x w)
      → IsPending x.start (next_of x w h).point (known_behind w.offer (x.verdict_of w.finding.value))
  next_pends w h pending = (subst (AllByRecursion (λ (obligation : Obligation). IsPending x.start obligation.0 obligation.1)) (next_of x w h).obligations pending).0

  pub copy_opened : (w : OpenNode N D) (place : P) (h : IsOpenNode x w) → IsFork w.offer → AllByRecursion (λ (obligation : Obligation). IsPending x.start obligation.0 obligation.1) (obligations_of x w)
      → behind_last x.start (x.place_at place) ≡ (next_of x w h).point → IsOpened place (x.verdict_of w.finding.value)
  copy_opened w place h fork pending e =
      let pend = subst (IsPending x.start (next_of x w h).point) (forks_known w.offer (x.verdict_of w.finding.value) fork) (next_pends w h pending) in
      record {
        at = subst (IsAt x.start) (sym e) pend.at;
        known = subst (λ (a : Point). IsKnown (condition_at x.start a) (x.verdict_of w.finding.value)) (sym e) pend.found;
      }

  pub side_opened : (w : OpenNode N D) (place : P) (verdict : Verdict) (h : IsOpenNode x w) → AllByRecursion (λ (obligation : Obligation). IsPending x.start obligation.0 obligation.1) (obligations_of x w)
      → behind_last x.start (x.place_at place) ≡ (next_of x w h).point → AllTyped itself (next_of x w h).point.widths (condition_at x.start (next_of x w h).point).entries
      → IsVerdictOn (condition_at x.start (next_of x w h).point) verdict → IsOpened place verdict
  side_opened w place verdict h pending e typed is = record {
    at = subst (IsAt x.start) (sym e) (next_pends w h pending).at;
    known = subst (λ (a : Point). IsKnown (condition_at x.start a) verdict) (sym e) (known_now x.start (next_of x w h).point verdict typed is);
  }

  pub first_opened : (place : P) (verdict : Verdict) → behind_last x.start (x.place_at place) ≡ first_point x.start
      → AllTyped itself (first_point x.start).widths (condition_at x.start (first_point x.start)).entries → IsVerdictOn (condition_at x.start (first_point x.start)) verdict → IsOpened place verdict
  first_opened place verdict e typed is = record {
    at = subst (IsAt x.start) (sym e) (below.begins 0).pending.0.at;
    known = subst (λ (a : Point). IsKnown (condition_at x.start a) verdict) (sym e) (known_now x.start (first_point x.start) verdict typed is);
  }

  -- its place was gone on from
  pub keeps_open : (w : OpenNode N D) (place : P) (verdict : Verdict) (old mid new : List (OpenNode N D)) (made : Option T) (before after : ℕ) (h : IsOpenNode x w)
      → behind_last x.start (x.place_at place) ≡ (next_of x w h).point
      → ((limit : ℕ) (done : List RecordTree) (rest : List Obligation) → Stands x.start limit done (((next_of x w h).point, known_behind w.offer (x.verdict_of w.finding.value)) ∷ rest)
      → Stands x.start limit done (((next_of x w h).point, decided verdict) ∷ rest))
      → IsPut (record w { taken = suc w.taken }) old mid → Keeps x ((behind_last x.start (x.place_at place), decided verdict) ∷ []) mid new made before after
      → Keeps x (obligations_of x w) old new made before after
  keeps_open w place verdict old mid new made before after h e decide put k =
      let first : Obligation = ((next_of x w h).point, known_behind w.offer (x.verdict_of w.finding.value)) in
      let obligations = split_obligations x w old mid h put in
      let moved : (limit : ℕ) (done : List RecordTree) (count : ℕ) → Holds x.start limit done (obligations_of x w ++ all_obligations x old) count
      → Holds x.start limit done ((behind_last x.start (x.place_at place), decided verdict) ∷ all_obligations x mid) count =
      λ limit done count st.
      let there = subst (λ (ts : List Obligation). Holds x.start limit done ts count) obligations st in
      subst (λ (a : Point). Holds x.start limit done ((a, decided verdict) ∷ all_obligations x mid) count) (sym e)
      (holds_decided x.start exact limit done first ((next_of x w h).point, decided verdict) (all_obligations x mid) count refl there (decide limit done (all_obligations x mid) there.stands)) in
      record {
        raised = k.raised;
        counted = k.counted;
        holds = λ limit done count less st. k.holds limit done count less (moved limit done count st);
        spent = λ limit done count less st z q. k.spent limit done count less (moved limit done count st) z q;
        open_nodes = λ all. k.open_nodes (put_back_open_nodes x w old mid h put all);
        tried = k.tried;
        own = k.own;
        falls =
            let f = k.falls in
            let t : weights (obligations_of x w ++ all_obligations x old) ≡ weight (next_of x w h).point.tree + weights (all_obligations x mid) = ap weights obligations in
            let p : weight (behind_last x.start (x.place_at place)).tree ≡ weight (next_of x w h).point.tree = ap (λ (a : Point). weight a.tree) e in
            omega (arith, f, t, p);
      }

  -- a copy has its fork's verdict
  pub copy_stays : (w : OpenNode N D) (h : IsOpenNode x w) → IsFork w.offer → (verdict : Verdict) → verdict ≡ x.verdict_of w.finding.value
      → (limit : ℕ) (done : List RecordTree) (rest : List Obligation) → Stands x.start limit done (((next_of x w h).point, known_behind w.offer (x.verdict_of w.finding.value)) ∷ rest)
      → Stands x.start limit done (((next_of x w h).point, decided verdict) ∷ rest)
  copy_stays w h fork verdict e limit done rest st =
      subst (λ (k : Known). Stands x.start limit done (((next_of x w h).point, k) ∷ rest)) (forks_known w.offer (x.verdict_of w.finding.value) fork ∙ ap decided (sym e)) st

  -- where the side was decided, and is not refuted
  pub decides_side : (w : OpenNode N D) (h : IsOpenNode x w) (verdict : Verdict) → (IsFork w.offer → ⊥)
      → AllTyped itself (next_of x w h).point.widths (condition_at x.start (next_of x w h).point).entries → IsVerdictOn (condition_at x.start (next_of x w h).point) verdict
      → (limit : ℕ) (done : List RecordTree) (rest : List Obligation) → Stands x.start limit done (((next_of x w h).point, known_behind w.offer (x.verdict_of w.finding.value)) ∷ rest)
      → Stands x.start limit done (((next_of x w h).point, decided verdict) ∷ rest)
  decides_side w h verdict asks typed is limit done rest st =
      below.decides limit done (next_of x w h).point (Some (x.verdict_of w.finding.value)) verdict rest typed is
      (subst (λ (k : Known). Stands x.start limit done (((next_of x w h).point, k) ∷ rest)) (asks_known w.offer (x.verdict_of w.finding.value) asks) st)

  -- it is refuted
  pub keeps_pruned : (w : OpenNode N D) (old mid : List (OpenNode N D)) (made : T) (refutation : List Refute) (before : ℕ) (h : IsOpenNode x w) → (IsFork w.offer → ⊥)
      → IsFoundRefuted (condition_at x.start (next_of x w h).point) refutation
      → IsMade x (pruned ((x.node_at w.node).decisions ++ offer_at w.offer w.taken ∷ []) (Some (filled_verdict (length (x.node_at w.node).widths) (x.verdict_of w.finding.value))) refutation) made
      → IsPut (record w { taken = suc w.taken }) old mid → Keeps x (obligations_of x w) old mid (Some made) before before
  keeps_pruned w old mid made refutation before h asks refuted is put =
      let k = next_of x w h in
      let v = x.verdict_of w.finding.value in
      let y = pruned k.point.decisions (Some (filled_verdict (length k.point.widths) v)) refutation in
      let same : pruned ((x.node_at w.node).decisions ++ offer_at w.offer w.taken ∷ []) (Some (filled_verdict (length (x.node_at w.node).widths) v)) refutation ≡ y =
      λ i. pruned (sym k.decisions i) (Some (filled_verdict (length (sym k.widths i)) v)) refutation in
      keeps_made (k.point, known_behind w.offer v) old mid made y before before 0 (omega arith) (subst (λ (z : RecordTree). IsMade x z made) same is) (λ q. q) refl (omega arith)
      (λ limit done less st. below.prunes limit done k.point (Some v) (Some (filled_verdict (length k.point.widths) v)) refutation (all_obligations x mid) less (stay.before k.point v) refuted
      (subst (λ (known : Known). Stands x.start limit done ((k.point, known) ∷ all_obligations x mid)) (asks_known w.offer v asks) st))
      (obligations_of x w) (split_obligations x w old mid h put) (put_back_open_nodes x w old mid h put)

  -- ---- the first step

  pub keeps_refuted : (made : T) (open_nodes : List (OpenNode N D)) (refutation : List Refute) (before : ℕ) → IsFoundRefuted (condition_at x.start (first_point x.start)) refutation
      → IsMade x (pruned [] None refutation) made → Keeps x ((first_point x.start, to_decide None) ∷ []) open_nodes open_nodes (Some made) before before
  keeps_refuted made open_nodes refutation before refuted is =
      keeps_made (first_point x.start, to_decide None) open_nodes open_nodes made (pruned [] None refutation) before before 0 (omega arith) is (λ q. q) refl (omega arith)
      (λ limit done less st. below.prunes limit done (first_point x.start) None None refutation (all_obligations x open_nodes) less refl refuted st)
      ((first_point x.start, to_decide None) ∷ []) refl (λ w. w)

  pub keeps_begun : (place : P) (verdict : Verdict) (old new : List (OpenNode N D)) (made : Option T) (before after : ℕ)
      → behind_last x.start (x.place_at place) ≡ first_point x.start
      → AllTyped itself (first_point x.start).widths (condition_at x.start (first_point x.start)).entries → IsVerdictOn (condition_at x.start (first_point x.start)) verdict
      → Keeps x ((behind_last x.start (x.place_at place), decided verdict) ∷ []) old new made before after → Keeps x ((first_point x.start, to_decide None) ∷ []) old new made before after
  keeps_begun place verdict old new made before after e typed is k =
      let moved : (limit : ℕ) (done : List RecordTree) (count : ℕ) → Holds x.start limit done ((first_point x.start, to_decide None) ∷ all_obligations x old) count
      → Holds x.start limit done ((behind_last x.start (x.place_at place), decided verdict) ∷ all_obligations x old) count =
      λ limit done count st.
      subst (λ (a : Point). Holds x.start limit done ((a, decided verdict) ∷ all_obligations x old) count) (sym e)
      (holds_decided x.start exact limit done (first_point x.start, to_decide None) (first_point x.start, decided verdict) (all_obligations x old) count refl st
      (below.decides limit done (first_point x.start) None verdict (all_obligations x old) typed is st.stands)) in
      record {
        raised = k.raised;
        counted = k.counted;
        holds = λ limit done count less st. k.holds limit done count less (moved limit done count st);
        spent = λ limit done count less st z q. k.spent limit done count less (moved limit done count st) z q;
        open_nodes = k.open_nodes;
        tried = k.tried;
        own = k.own;
        falls =
            let f = k.falls in
            let p : weight (behind_last x.start (x.place_at place)).tree ≡ weight (first_point x.start).tree = ap (λ (a : Point). weight a.tree) e in
            omega (arith, f, p);
      }
