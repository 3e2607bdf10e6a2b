-- On the way to the next node.
use Rattle.std.proofs.Common.{◌≡◌, ℕ, suc, ◌+◌, ◌-◌, ◌<◌, Bool, List, [], ◌∷◌, ◌++◌, refl, sym, ap, subst, ◌∙◌, append_assoc, arith, Option, Some, None, option_map}
use Rattle.lin_term.specs.Terms.{LinearTerm}
use Rattle.sefl_meaning.specs.declared.walk.Decision.{Decision}
use Rattle.sefl_meaning.specs.declared.walk.Place.{Place}
use Rattle.sefl_meaning.specs.Carried.{Carried}
use Rattle.sefl_meaning.specs.Courses.{Progress}
use Rattle.sefl_meaning.specs.Trees.{Tree, over, arrives, tests, splits}
use Rattle.sefl_meaning.specs.Routes.{Route, arriving, behind, route}
use Rattle.sefl_meaning.specs.Start.{progress_of}
use Rattle.exact_records.specs.Records.{SymStart, SymTree}
use Rattle.exact_records.specs.Points.{IsAt, Point, first_point, node_of, places_of}
use Rattle.exact_records.specs.Work.{at_last, begun_at, begun_on, without_last}
use Rattle.exact_records.proofs.Lists.{append_nil}
use Rattle.path_exec.specs.declared.engine.Moved.{Moved}
use Rattle.path_exec.specs.declared.engine.Moved.TheVariants.{Arrived, Stopped}
use Rattle.path_exec.specs.declared.engine.Next.{Next}
use Rattle.path_exec.specs.declared.engine.Next.TheVariants.{AtEnd, AtNode}
use Rattle.path_exec.specs.declared.engine.Offer.{Offer}
use Rattle.path_exec.specs.declared.engine.Offer.TheVariants.{If, Constrain, Fork}
use Rattle.path_exec.specs.Location.{Location, behind_last, point_at}
use Rattle.path_exec.specs.Views.{Views}
use Rattle.path_exec.specs.Offers.{IsNode, IsOver}
use Rattle.path_exec.specs.Moves.{Advances, ComesTo, IsMove, IsNext, IsStop, Moves, Reaches, StopsAt}
use Rattle.path_exec.specs.Keeping.{weight}

-- ---- how many have begun

module _ {V F : Type 0} where
  begun_arriving : (place : Place) (p : Progress V) (r : Option (Route V F)) → begun_on (option_map (arriving place p) r) ≡ begun_on r
  begun_arriving place p None = refl
  begun_arriving place p (Some r) = refl

  begun_behind : (ps : List (Place × Progress V)) (us : List (F × Bool)) (r : Option (Route V F)) → begun_on (option_map (behind ps us) r) ≡ begun_on r
  begun_behind ps us None = refl
  begun_behind ps us (Some r) = refl

  begun_node : (t : Tree V F) → begun_on (route t []) ≡ (progress_of (node_of t)).begun
  begun_node (over p end') = refl
  begun_node (arrives place p t) = begun_arriving place p (route t []) ∙ begun_node t
  begun_node (tests asking p test held broken) = refl
  begun_node (splits p branches) = refl

module _ (s : SymStart) where
  -- at the next node of a point as many have begun as the tree says
  pub begun_there : (a : Point) → IsAt s a → begun_at s.tree a.decisions ≡ (progress_of (node_of a.tree)).begun
  begun_there a at =
      ap (begun_at s.tree) (sym (append_nil a.decisions))
      ∙ (ap begun_on (at.leads []) ∙ (begun_behind at.arrivals a.tests (route a.tree []) ∙ begun_node a.tree))

  pub begun_next : (a c : Point) (count : ℕ) → IsAt s a → ComesTo s count a c → begun_at s.tree c.decisions ≡ count
  begun_next a c count at n =
      ap (begun_at s.tree) n.arrives.decisions
      ∙ (begun_there a at ∙ (ap (λ (t : SymTree). (progress_of t).begun) (sym n.arrives.tree) ∙ n.begun))

pub without_one : (ds : List Decision) (d : Decision) → without_last (ds ++ d ∷ []) ≡ ds
without_one [] d = refl
without_one (c ∷ []) d = refl
without_one (c ∷ b ∷ ds) d = ap (λ zs. c ∷ zs) (without_one (b ∷ ds) d)

pub last_at : (at : List Decision → ℕ) (ds : List Decision) (d : Decision) → at_last at (ds ++ d ∷ []) ≡ at ds
last_at at [] d = refl
last_at at (c ∷ ds) d = ap at (without_one (c ∷ ds) d)

-- ---- further along the way

pub record IsOnWay (a c : Point) : Type 0 where
  pub decisions : c.decisions ≡ a.decisions
  pub tests : c.tests ≡ a.tests
  pub places : c.places ++ places_of c.tree ≡ a.places ++ places_of a.tree
  pub node : node_of c.tree ≡ node_of a.tree
  pub more : List ℕ
  pub grown : c.widths ≡ a.widths ++ more

pub way_first : (a : Point) → IsOnWay a a
way_first a = record { decisions = refl; tests = refl; places = refl; node = refl; more = []; grown = sym (append_nil a.widths) }

pub way_on : (s : SymStart) (a b c : Point) (carried : Carried LinearTerm) → IsOnWay a b → Reaches s b c carried → IsOnWay a c
way_on s a b c carried w h = record {
  decisions = h.goes.decisions ∙ w.decisions;
  tests = h.goes.tests ∙ w.tests;
  places = ap (λ ps. ps ++ places_of c.tree) h.places
      ∙ (append_assoc b.places (h.port ∷ []) (places_of c.tree)
      ∙ (ap (λ (t : SymTree). b.places ++ places_of t) (sym h.is) ∙ w.places));
  node = ap (λ (t : SymTree). node_of t) (sym h.is) ∙ w.node;
  more = w.more ++ h.goes.more;
  grown = h.goes.grown ∙ (ap (λ ws. ws ++ h.goes.more) w.grown ∙ append_assoc a.widths w.more h.goes.more);
}

-- a tree that waits, or is over, is its own next node
pub record IsStill (t : SymTree) : Type 0 where
  pub node : node_of t ≡ t
  pub places : places_of t ≡ []

pub over_still : (t : SymTree) → IsOver t → IsStill t
over_still t h = subst IsStill (sym h.is) (record { node = refl; places = refl })

pub node_still : (offer : Offer) (t : SymTree) → IsNode offer t → IsStill t
node_still If t h = subst IsStill (sym h.is) (record { node = refl; places = refl })
node_still Constrain t h = subst IsStill (sym h.is) (record { node = refl; places = refl })
node_still (Fork copies) t h = subst IsStill (sym h.is) (record { node = refl; places = refl })

way_done : (s : SymStart) (count : ℕ) (a b c : Point) → IsOnWay a b → StopsAt s count b c → IsStill c.tree → ComesTo s count a c
way_done s count a b c w h still = record {
  arrives = record {
    decisions = h.goes.decisions ∙ w.decisions;
    places = h.places ∙ (sym (append_nil b.places)
        ∙ (ap (λ ps. b.places ++ ps) (sym still.places ∙ ap (λ (t : SymTree). places_of t) h.tree) ∙ w.places));
    tests = h.goes.tests ∙ w.tests;
    tree = sym still.node ∙ (ap (λ (t : SymTree). node_of t) h.tree ∙ w.node);
    widths = h.widths;
    more = w.more ++ h.goes.more;
    grown = h.goes.grown ∙ (ap (λ ws. ws ++ h.goes.more) w.grown ∙ append_assoc a.widths w.more h.goes.more);
  };
  begun = h.begun;
}

module _ {P O N D T : Type 0} (x : Views P O N D T) where
  -- the run is on its way, and the counter has risen by what has begun
  pub record IsUnderWay (first now : Location) (before after : ℕ) : Type 0 where
    pub raised : ℕ
    pub counted : after ≡ before + raised
    pub way : (begun : ℕ) → IsOnWay (point_at begun first) (point_at (begun + raised) now)

  unfoldable pub starts_way : (first : Location) (before : ℕ) → IsUnderWay first first before before
  starts_way first before = record {
    raised = 0;
    counted = omega arith;
    way = λ begun. let same : begun ≡ begun + 0 = omega arith in subst (λ (m : ℕ). IsOnWay (point_at begun first) (point_at m first)) same (way_first (point_at begun first));
  }

  unfoldable pub goes_way : (first now : Location) (before mid after : ℕ) (moved : Moved P O N) (place : P) → IsUnderWay first now before mid → Moves x now mid after moved
      → moved ≡ Arrived place → IsUnderWay first (x.place_at place) before after
  goes_way first now before mid after moved place w h is = record {
    raised = w.raised + h.raised;
    counted = let k = w.counted in let m = h.counted in omega (arith, k, m);
    way = λ begun.
        let same : (begun + w.raised) + h.raised ≡ begun + (w.raised + h.raised) = omega arith in
        subst (λ (m : ℕ). IsOnWay (point_at begun first) (point_at m (x.place_at place))) same
        (way_on x.start (point_at begun first) (point_at (begun + w.raised) now) (point_at ((begun + w.raised) + h.raised) (x.place_at place)) (x.carried_at place) (w.way begun)
        (subst (IsMove x (point_at (begun + w.raised) now) ((begun + w.raised) + h.raised)) is (h.goes (begun + w.raised))));
  }

  pub falls_way : (first now : Location) (before mid after : ℕ) (moved : Moved P O N) (place : P) → IsUnderWay first now before mid → Moves x now mid after moved
      → moved ≡ Arrived place → weight ((x.place_at place).tree (after - before)) < weight (now.tree (mid - before))
  falls_way first now before mid after moved place w h is =
      let k = w.counted in
      let m = h.counted in
      let here : mid - before ≡ w.raised = omega (arith, k) in
      let there : after - before ≡ w.raised + h.raised = omega (arith, k, m) in
      let reached = subst (IsMove x (point_at w.raised now) (w.raised + h.raised)) is (h.goes w.raised) in
      let e : weight (now.tree w.raised) ≡ suc (weight ((x.place_at place).tree (w.raised + h.raised))) = ap (λ (t : SymTree). weight t) reached.is in
      let old : weight (now.tree (mid - before)) ≡ weight (now.tree w.raised) = ap (λ (n : ℕ). weight (now.tree n)) here in
      let new' : weight ((x.place_at place).tree (after - before)) ≡ weight ((x.place_at place).tree (w.raised + h.raised)) = ap (λ (n : ℕ). weight ((x.place_at place).tree n)) there in
      omega (arith, e, old, new')

  comes_next : (a b : Point) (count : ℕ) (next : Next O N) → IsOnWay a b → IsStop x b count next → IsNext x a count next
  comes_next a b count (AtEnd done) w h = (way_done x.start count a b (point_at count (x.over_at done)) w h.0 (over_still ((x.over_at done).tree count) h.1), h.1)
  comes_next a b count (AtNode node offer) w h = (way_done x.start count a b (point_at count (x.node_at node)) w h.0 (node_still offer ((x.node_at node).tree count) h.1), h.1)

  pub ends_way : (first now : Location) (before mid after : ℕ) (moved : Moved P O N) (next : Next O N) → IsUnderWay first now before mid → Moves x now mid after moved
      → moved ≡ Stopped next → Advances x first before after next
  ends_way first now before mid after moved next w h is = record {
    raised = w.raised + h.raised;
    counted = let k = w.counted in let m = h.counted in omega (arith, k, m);
    goes = λ begun.
        let same : (begun + w.raised) + h.raised ≡ begun + (w.raised + h.raised) = omega arith in
        subst (λ (m : ℕ). IsNext x (point_at begun first) m next) same
        (comes_next (point_at begun first) (point_at (begun + w.raised) now) ((begun + w.raised) + h.raised) next (w.way begun)
        (subst (IsMove x (point_at (begun + w.raised) now) ((begun + w.raised) + h.raised)) is (h.goes (begun + w.raised))));
  }

  -- a place that was made of a node stands behind that decision
  pub placed : (node : N) (d : Decision) (place : P) (c : Point) → point_at (begun_at x.start.tree (x.node_at node).decisions) (x.place_at place) ≡ c
      → c.decisions ≡ (x.node_at node).decisions ++ d ∷ [] → behind_last x.start (x.place_at place) ≡ c
  placed node d place c e k =
      let at = begun_at x.start.tree in
      let same : at_last at (x.place_at place).decisions ≡ at (x.node_at node).decisions =
      ap (at_last at) (ap (λ (a : Point). a.decisions) e ∙ k) ∙ last_at at (x.node_at node).decisions d in
      ap (λ (m : ℕ). point_at m (x.place_at place)) same ∙ e

  -- that of the start stands there
  pub first_placed : (place : P) → point_at 0 (x.place_at place) ≡ first_point x.start → behind_last x.start (x.place_at place) ≡ first_point x.start
  first_placed place e =
      let none : at_last (begun_at x.start.tree) (x.place_at place).decisions ≡ 0 = ap (λ (a : Point). at_last (begun_at x.start.tree) a.decisions) e in
      ap (λ (m : ℕ). point_at m (x.place_at place)) none ∙ e
