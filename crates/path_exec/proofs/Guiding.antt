-- The guided run, step by step.
use Rattle.std.proofs.Common.{◌≡◌, ℕ, zero, suc, nat_lt, ◌+◌, ◌<◌, inl, inr, Bool, true, false, List, [], ◌∷◌, ◌++◌, length, refl, sym, ap, subst, ◌∙◌, append_assoc, arith, Some, None, option_map, if◌then◌else◌}
use Rattle.std.proofs.lemmas.Bool.Decides.{nat_tests}
use Rattle.lin_term.specs.Terms.{LinearTerm}
use Rattle.path_formula.specs.Formulas.{FormulaTree}
use Rattle.sefl_meaning.specs.declared.walk.Decision.{Decision}
use Rattle.sefl_meaning.specs.declared.walk.Decision.TheVariants.{Then, Else, Pass, Broken, Copy}
use Rattle.sefl_meaning.specs.declared.walk.Place.{Place}
use Rattle.sefl_meaning.specs.Courses.{Asking, at_if, at_constrain, Progress}
use Rattle.sefl_meaning.specs.Trees.{Tree, tests, splits, Copies, no_copies, copy_and}
use Rattle.sefl_meaning.specs.Taken.{decision_at}
use Rattle.sefl_meaning.specs.Routes.{Has, IsFirstClosed, behind, copy_route, offered_copies, offers, route, waiting}
use Rattle.exact_records.specs.Records.{Leads, SymStart, SymTree}
use Rattle.exact_records.specs.Points.{Arrives, IsAt, Point, arrivals_of, copied, copy_at, first_point, node_of, places_of, sided}
use Rattle.exact_records.specs.Work.{at_last, begun_at}
use Rattle.exact_records.proofs.Lists.{append_nil, map_append}
use Rattle.exact_records.proofs.Arriving.{IsWaiting, at_start, behind_more, behind_nothing, led, node_waits, route_node, some_same}
use Rattle.path_exec.specs.declared.engine.Offer.{Offer}
use Rattle.path_exec.specs.declared.engine.Offer.TheVariants.{If, Constrain, Fork}
use Rattle.path_exec.specs.declared.engine.Next.{Next}
use Rattle.path_exec.specs.declared.engine.Next.TheVariants.{AtEnd, AtNode}
use Rattle.path_exec.specs.Location.{Location, behind_last, point_at, waiting_at}
use Rattle.path_exec.specs.Views.{Views}
use Rattle.path_exec.specs.Offers.{IsNode, IsOffered, IsOver, copy_count, is_offered, next_by, next_point}
use Rattle.path_exec.specs.Moves.{Advances, ComesTo}
use Rattle.path_exec.specs.Following.{IsLed, LeadsTo, StandsWith, Turns}
use Rattle.path_exec.proofs.Ways.{begun_next, first_placed, placed}

false_true : (b : Bool) → b ≡ false → b ≡ true → ⊥
false_true b e k = cc

-- ---- the arrivals of a run

module _ {V F : Type 0} where
  side_route : (asking : Asking) (p : Progress V) (test : F) (held broken : Tree V F) (truth : Bool) (ds : List Decision)
      → route (tests asking p test held broken) (decision_at asking truth ∷ ds) ≡ option_map (behind [] ((test, truth) ∷ [])) (route (if truth then held else broken) ds)
  side_route at_if p test held broken true ds = refl
  side_route at_if p test held broken false ds = refl
  side_route at_constrain p test held broken true ds = refl
  side_route at_constrain p test held broken false ds = refl

  copy_route_at : (branches : Copies V F) (n : ℕ) (t : Tree V F) (ds : List Decision) → copy_at branches n ≡ Some t → copy_route branches n ds ≡ route t ds
  copy_route_at no_copies n t ds e = let bad : None ≡ Some t = e in cc
  copy_route_at (copy_and u branches) zero t ds e = let same : u ≡ t = some_same e in ap (λ (z : Tree V F). route z ds) same
  copy_route_at (copy_and u branches) (suc n) t ds e = copy_route_at branches n t ds e

module _ (s : SymStart) where
  pub start_stands : StandsWith s [] (first_point s)
  start_stands = record { at = record { arrivals = []; places = refl; leads = λ ds. behind_nothing (route s.tree ds) }; same = refl }

  next_stands : (a b : Point) (h : IsAt s a) → Arrives s a b → StandsWith s (h.arrivals ++ arrivals_of a.tree) b
  next_stands a b h n = record {
    at = record {
      arrivals = h.arrivals ++ arrivals_of a.tree;
      places = map_append (λ (at : Place × Progress LinearTerm). at.0) h.arrivals (arrivals_of a.tree) ∙ (ap (λ (ps : List Place). ps ++ places_of a.tree) h.places ∙ sym n.places);
      leads = λ ds.
          ap (λ (xs : List Decision). route s.tree (xs ++ ds)) n.decisions
          ∙ (h.leads ds ∙ (ap (option_map (behind h.arrivals a.tests)) (route_node a.tree ds)
          ∙ (behind_more h.arrivals (arrivals_of a.tree) a.tests [] (route (node_of a.tree) ds)
          ∙ (λ i. option_map (behind (h.arrivals ++ arrivals_of a.tree) ((append_nil a.tests ∙ sym n.tests) i)) (route (sym n.tree i) ds)))));
    };
    same = refl;
  }

  side_stands : (a : Point) (asking : Asking) (p : Progress LinearTerm) (test : FormulaTree) (held broken : SymTree) (truth : Bool) (h : IsAt s a) → a.tree ≡ tests asking p test held broken
      → StandsWith s h.arrivals (sided a asking test truth (if truth then held else broken))
  side_stands a asking p test held broken truth h e = record {
    at = record {
      arrivals = h.arrivals;
      places = h.places;
      leads = λ ds.
          ap (route s.tree) (append_assoc a.decisions (decision_at asking truth ∷ []) ds)
          ∙ (h.leads (decision_at asking truth ∷ ds)
          ∙ (ap (λ (t : SymTree). option_map (behind h.arrivals a.tests) (route t (decision_at asking truth ∷ ds))) e
          ∙ (ap (option_map (behind h.arrivals a.tests)) (side_route asking p test held broken truth ds)
          ∙ (behind_more h.arrivals [] a.tests ((test, truth) ∷ []) (route (if truth then held else broken) ds)
          ∙ ap (λ (ps : List (Place × Progress LinearTerm)). option_map (behind ps (a.tests ++ (test, truth) ∷ [])) (route (if truth then held else broken) ds)) (append_nil h.arrivals)))));
    };
    same = refl;
  }

  copy_stands : (a : Point) (p : Progress LinearTerm) (branches : Copies LinearTerm FormulaTree) (n : ℕ) (t : SymTree) → copy_at branches n ≡ Some t → (h : IsAt s a) → a.tree ≡ splits p branches
      → StandsWith s h.arrivals (copied a n t)
  copy_stands a p branches n t k h e = record {
    at = record {
      arrivals = h.arrivals;
      places = h.places;
      leads = λ ds.
          ap (route s.tree) (append_assoc a.decisions (Copy n ∷ []) ds)
          ∙ (h.leads (Copy n ∷ ds) ∙ (ap (λ (z : SymTree). option_map (behind h.arrivals a.tests) (route z (Copy n ∷ ds))) e
          ∙ ap (option_map (behind h.arrivals a.tests)) (copy_route_at branches n t ds k)));
    };
    same = refl;
  }

-- ---- which decisions are offered

has_copy : (branches : Copies LinearTerm FormulaTree) (first : ℕ) (d : Decision) → Has (offered_copies first branches) d
    → (n : ℕ) × (d ≡ Copy (first + n)) × (n < copy_count branches)
has_copy no_copies first d h = absurd h
has_copy (copy_and t branches) first d (inl e) = let z : first ≡ first + 0 = omega arith in (0, sym e ∙ ap (λ (n : ℕ). Copy n) z, omega arith)
has_copy (copy_and t branches) first d (inr h) =
    let r = has_copy branches (suc first) d h in
    let e : suc first + r.0 ≡ first + suc r.0 = omega arith in
    (suc r.0, r.1 ∙ ap (λ (n : ℕ). Copy n) e, let l = r.2 in omega (arith, l))

copy_offered : (count : ℕ) (branches : Copies LinearTerm FormulaTree) (d : Decision) → count ≡ copy_count branches → Has (offered_copies 0 branches) d → is_offered (Fork count) d ≡ true
copy_offered count branches d counted h =
    let r = has_copy branches 0 d h in
    let less : 0 + r.0 < count = let l = r.2 in omega (arith, l, counted) in
    ap (is_offered (Fork count)) r.1 ∙ decided_less (0 + r.0) count less
  where
    decided_less : (n m : ℕ) → n < m → nat_lt n m ≡ true
    decided_less n m l = grind (arith, nat_tests)

if_offered : (d : Decision) → Has (Then ∷ Else ∷ []) d → is_offered If d ≡ true
if_offered d (inl e) = ap (is_offered If) (sym e)
if_offered d (inr (inl e)) = ap (is_offered If) (sym e)
if_offered d (inr (inr h)) = absurd h

constrain_offered : (d : Decision) → Has (Pass ∷ Broken ∷ []) d → is_offered Constrain d ≡ true
constrain_offered d (inl e) = ap (is_offered Constrain) (sym e)
constrain_offered d (inr (inl e)) = ap (is_offered Constrain) (sym e)
constrain_offered d (inr (inr h)) = absurd h

has_offered : (offer : Offer) (t : SymTree) (d : Decision) → IsNode offer t → Has (offers t) d → is_offered offer d ≡ true
has_offered If t d h k = if_offered d (subst (λ (u : SymTree). Has (offers u) d) h.is k)
has_offered Constrain t d h k = constrain_offered d (subst (λ (u : SymTree). Has (offers u) d) h.is k)
has_offered (Fork count) t d h k = copy_offered count h.branches d h.counted (subst (λ (u : SymTree). Has (offers u) d) h.is k)

-- ---- what comes behind one that is offered

-- the point behind the decision
pub record IsBehind (s : SymStart) (b : Point) (d : Decision) (t : SymTree) : Type 0 where
  pub point : Point
  pub next : next_by t b d ≡ Some point
  pub decisions : point.decisions ≡ b.decisions ++ d ∷ []
  pub at : (h : IsAt s b) → b.tree ≡ t → StandsWith s h.arrivals point

module _ (s : SymStart) (b : Point) where
  if_behind : (p : Progress LinearTerm) (test : FormulaTree) (held broken : SymTree) (d : Decision) → is_offered If d ≡ true → IsBehind s b d (tests at_if p test held broken)
  if_behind p test held broken Then h =
      record { point = sided b at_if test true held; next = refl; decisions = refl; at = side_stands s b at_if p test held broken true }
  if_behind p test held broken Else h =
      record { point = sided b at_if test false broken; next = refl; decisions = refl; at = side_stands s b at_if p test held broken false }
  if_behind p test held broken Pass h = let bad : false ≡ true = h in cc
  if_behind p test held broken Broken h = let bad : false ≡ true = h in cc
  if_behind p test held broken (Copy n) h = let bad : false ≡ true = h in cc

  constrain_behind : (p : Progress LinearTerm) (test : FormulaTree) (held broken : SymTree) (d : Decision) → is_offered Constrain d ≡ true
      → IsBehind s b d (tests at_constrain p test held broken)
  constrain_behind p test held broken Pass h =
      record { point = sided b at_constrain test true held; next = refl; decisions = refl; at = side_stands s b at_constrain p test held broken true }
  constrain_behind p test held broken Broken h =
      record { point = sided b at_constrain test false broken; next = refl; decisions = refl; at = side_stands s b at_constrain p test held broken false }
  constrain_behind p test held broken Then h = let bad : false ≡ true = h in cc
  constrain_behind p test held broken Else h = let bad : false ≡ true = h in cc
  constrain_behind p test held broken (Copy n) h = let bad : false ≡ true = h in cc

  a_copy : (branches : Copies LinearTerm FormulaTree) (n : ℕ) → n < copy_count branches → (t : SymTree) × (copy_at branches n ≡ Some t)
  a_copy no_copies n h = absurd (omega (arith, h))
  a_copy (copy_and t branches) zero h = (t, refl)
  a_copy (copy_and t branches) (suc n) h = a_copy branches n (omega (arith, h))

  number_behind : (p : Progress LinearTerm) (branches : Copies LinearTerm FormulaTree) (n : ℕ) → n < copy_count branches → IsBehind s b (Copy n) (splits p branches)
  number_behind p branches n h =
      let k = a_copy branches n h in
      record { point = copied b n k.0; next = ap (option_map (copied b n)) k.1; decisions = refl; at = copy_stands s b p branches n k.0 k.1 }

  copy_behind : (count : ℕ) (p : Progress LinearTerm) (branches : Copies LinearTerm FormulaTree) (d : Decision) → count ≡ copy_count branches → is_offered (Fork count) d ≡ true
      → IsBehind s b d (splits p branches)
  copy_behind count p branches Then counted h = let bad : false ≡ true = h in cc
  copy_behind count p branches Else counted h = let bad : false ≡ true = h in cc
  copy_behind count p branches Pass counted h = let bad : false ≡ true = h in cc
  copy_behind count p branches Broken counted h = let bad : false ≡ true = h in cc
  copy_behind count p branches (Copy n) counted h =
      let less : n < count = less_decided n count h in
      number_behind p branches n (omega (arith, less, counted))
    where
      less_decided : (n m : ℕ) → nat_lt n m ≡ true → n < m
      less_decided n m l = grind (arith, nat_tests)

  pub offered_behind : (offer : Offer) (d : Decision) → IsNode offer b.tree → is_offered offer d ≡ true → IsBehind s b d b.tree
  offered_behind If d h k = subst (IsBehind s b d) (sym h.is) (if_behind h.progress h.test h.held h.broken d k)
  offered_behind Constrain d h k = subst (IsBehind s b d) (sym h.is) (constrain_behind h.progress h.test h.held h.broken d k)
  offered_behind (Fork count) d h k = subst (IsBehind s b d) (sym h.is) (copy_behind count h.progress h.branches d h.counted k)

-- ---- the run

module _ {P O N D T : Type 0} (x : Views P O N D T) where
  pub closed_at_end : (o : O) (d : Decision) → IsOver (waiting_at x.start (x.over_at o)).tree → Turns x (AtEnd o) d None
  closed_at_end o d h = λ k. subst (λ (t : SymTree). Has (offers t) d) h.is k

  pub closed_at_node : (node : N) (offer : Offer) (d : Decision) → IsNode offer (waiting_at x.start (x.node_at node)).tree → is_offered offer d ≡ false → Turns x (AtNode node offer) d None
  closed_at_node node offer d h e = λ k. false_true (is_offered offer d) e (has_offered offer (waiting_at x.start (x.node_at node)).tree d h k)

  pub turned : (node : N) (offer : Offer) (d : Decision) (place : P) (h : IsNode offer (waiting_at x.start (x.node_at node)).tree) (e : is_offered offer d ≡ true)
      → point_at (begun_at x.start.tree (x.node_at node).decisions) (x.place_at place) ≡ (offered_behind x.start (waiting_at x.start (x.node_at node)) offer d h e).point
      → Turns x (AtNode node offer) d (Some place)
  turned node offer d place h e is =
      let k = offered_behind x.start (waiting_at x.start (x.node_at node)) offer d h e in
      record {
        decisions = ap (λ (a : Point). a.decisions) is ∙ k.decisions;
        stands = λ at. subst (StandsWith x.start at.arrivals) (sym (placed x node d place k.point is k.decisions)) (k.at at refl);
      }

  -- it is offered, and the place behind it is that of its point
  pub offered_there : (node : N) (offer : Offer) (d : Decision) → IsNode offer (waiting_at x.start (x.node_at node)).tree → is_offered offer d ≡ true → IsOffered (x.node_at node) d
  offered_there node offer d h e =
      let k = offered_behind x.start (waiting_at x.start (x.node_at node)) offer d h e in
      (begun_at x.start.tree (x.node_at node).decisions, k.point, k.next)

  pub turned_there : (node : N) (offer : Offer) (d : Decision) (place : P) (h : IsNode offer (waiting_at x.start (x.node_at node)).tree) → is_offered offer d ≡ true
      → ((begun : ℕ) (c : Point) → next_point (point_at begun (x.node_at node)) d ≡ Some c → point_at begun (x.place_at place) ≡ c) → Turns x (AtNode node offer) d (Some place)
  turned_there node offer d place h e f =
      let k = offered_behind x.start (waiting_at x.start (x.node_at node)) offer d h e in
      turned node offer d place h e (f (begun_at x.start.tree (x.node_at node).decisions) k.point k.next)

  pub starts_at : (place : P) → point_at 0 (x.place_at place) ≡ first_point x.start → IsAt x.start (behind_last x.start (x.place_at place))
  starts_at place e = subst (IsAt x.start) (sym (first_placed x place e)) (at_start x.start)

  -- with the arrivals and the tests on the way
  pub record IsLedBy (arrivals : List (Place × Progress LinearTerm)) (taken : List (FormulaTree × Bool)) (ds : List Decision) (b : Point) : Type 0 where
    pub led : IsLed x.start ds b
    pub arrivals_are : led.way.arrivals ≡ arrivals
    pub tests_are : led.way.tests ≡ taken

  pub led_to : (a b : Point) (count : ℕ) (at : IsAt x.start a) → ComesTo x.start count a b → IsLedBy (at.arrivals ++ arrivals_of a.tree) a.tests a.decisions b
  led_to a b count at n =
      let st = next_stands x.start a b at n.arrives in
      let w : IsWaiting x.start b = record { at = st.at; node = subst (λ (t : SymTree). route t [] ≡ Some (waiting t)) (sym n.arrives.tree) (node_waits a.tree); widths = n.arrives.widths } in
      record {
        arrivals_are = st.same;
        tests_are = n.arrives.tests;
        led = record {
          at = w.at;
          decisions = n.arrives.decisions;
          way = record { arrivals = w.at.arrivals; tests = b.tests; left = b.tree };
          leads = subst (λ (ds : List Decision). Leads x.start ds (record { arrivals = w.at.arrivals; tests = b.tests; left = b.tree })) n.arrives.decisions (led x.start b w);
          left = refl;
          arrivals = refl;
          places = w.at.places;
          tests = refl;
          widths = w.widths;
        };
      }

  -- the same point, by how many have begun there
  come_there : (h c : Location) (count raised : ℕ) → IsAt x.start (behind_last x.start h) → count ≡ at_last (begun_at x.start.tree) h.decisions + raised
      → ComesTo x.start count (behind_last x.start h) (point_at count c) → count ≡ begun_at x.start.tree c.decisions
  come_there h c count raised at e n = sym (begun_next x.start (behind_last x.start h) (point_at count c) count at n)

  pub record ArrivesBy (arrivals : List (Place × Progress LinearTerm)) (taken : List (FormulaTree × Bool)) (ds : List Decision) (next : Next O N) : Type 0 where
    pub leads : LeadsTo x ds next
    pub arrivals_are : leads.led.way.arrivals ≡ arrivals
    pub tests_are : leads.led.way.tests ≡ taken

  pub arrived_by : (h : Location) (before after : ℕ) (next : Next O N) (at : IsAt x.start (behind_last x.start h)) → Advances x h before after next
      → ArrivesBy (at.arrivals ++ arrivals_of (behind_last x.start h).tree) h.tests h.decisions next
  arrived_by h before after (AtEnd o) at adv =
      let b0 = at_last (begun_at x.start.tree) h.decisions in
      let n = adv.goes b0 in
      let same = come_there h (x.over_at o) (b0 + adv.raised) adv.raised at refl n.0 in
      let l = led_to (behind_last x.start h) (waiting_at x.start (x.over_at o)) (b0 + adv.raised) at
      (subst (λ (m : ℕ). ComesTo x.start (b0 + adv.raised) (behind_last x.start h) (point_at m (x.over_at o))) same n.0) in
      record {
        leads = record { led = l.led; kind = subst (λ (m : ℕ). IsOver ((x.over_at o).tree m)) same n.1 };
        arrivals_are = l.arrivals_are;
        tests_are = l.tests_are;
      }
  arrived_by h before after (AtNode node offer) at adv =
      let b0 = at_last (begun_at x.start.tree) h.decisions in
      let n = adv.goes b0 in
      let same = come_there h (x.node_at node) (b0 + adv.raised) adv.raised at refl n.0 in
      let l = led_to (behind_last x.start h) (waiting_at x.start (x.node_at node)) (b0 + adv.raised) at
      (subst (λ (m : ℕ). ComesTo x.start (b0 + adv.raised) (behind_last x.start h) (point_at m (x.node_at node))) same n.0) in
      record {
        leads = record { led = l.led; kind = subst (λ (m : ℕ). IsNode offer ((x.node_at node).tree m)) same n.1 };
        arrivals_are = l.arrivals_are;
        tests_are = l.tests_are;
      }

  pub arrived : (h : Location) (before after : ℕ) (next : Next O N) → IsAt x.start (behind_last x.start h) → Advances x h before after next → LeadsTo x h.decisions next
  arrived h before after next at adv = (arrived_by h before after next at adv).leads

  -- a decision that is not offered is the first one
  pub impossible_at : (ds first rest : List Decision) (d : Decision) (index : ℕ) (next : Next O N) → ds ≡ first ++ d ∷ rest → length first ≡ index → LeadsTo x first next
      → Turns x next d None → IsFirstClosed x.start.tree ds index
  impossible_at ds first rest d index next joined placed_at h none = record {
    before = first;
    closed = d;
    later = rest;
    is = joined;
    at = placed_at;
    way = h.led.way;
    leads = h.led.leads;
    not_offered = λ k. none (subst (λ (t : SymTree). Has (offers t) d) h.led.left k);
  }
