-- Where an exploration stands: routes behind it, and where it waits.
use Rattle.std.proofs.Common.{◌≡◌, ℕ, zero, suc, Bool, true, false, List, [], ◌∷◌, ◌++◌, refl, sym, ap, subst, ◌∙◌, append_assoc, Option, Some, None, option_map, if◌then◌else◌}
use Rattle.refutation_check.specs.Longer.{condition_of}
use Rattle.lin_term.specs.Terms.{LinearTerm}
use Rattle.path_formula.specs.Formulas.{FormulaTree}
use Rattle.sefl_meaning.specs.declared.walk.Decision.{Decision}
use Rattle.sefl_meaning.specs.declared.walk.Decision.TheVariants.{Copy}
use Rattle.sefl_meaning.specs.declared.walk.Place.{Place}
use Rattle.sefl_meaning.specs.Courses.{Asking, at_if, at_constrain, Progress}
use Rattle.sefl_meaning.specs.Trees.{Tree, over, arrives, tests, splits, Copies, no_copies, copy_and}
use Rattle.sefl_meaning.specs.Taken.{decision_at}
use Rattle.sefl_meaning.specs.Routes.{Route, arriving, behind, copy_route, route, waiting}
use Rattle.sefl_meaning.specs.Start.{progress_of, tests_on}
use Rattle.exact_records.specs.Records.{Leads, SymRoute, SymStart, SymTree, condition_on}
use Rattle.exact_records.specs.Points.{Arrives, IsAt, Point, arrivals_of, condition_at, copied, copy_at, first_point, node_of, places_of, sided}
use Rattle.exact_records.proofs.Lists.{append_nil, map_append}

pub some_same : {A : Type 0} {a b : A} → Some a ≡ Some b → a ≡ b
some_same e = cc

module _ {V F : Type 0} where
  pub behind_nothing : (r : Option (Route V F)) → r ≡ option_map (behind [] []) r
  behind_nothing None = refl
  behind_nothing (Some r) = refl

  pub behind_more : (ps qs : List (Place × Progress V)) (us vs : List (F × Bool)) (r : Option (Route V F)) →
      option_map (behind ps us) (option_map (behind qs vs) r) ≡ option_map (behind (ps ++ qs) (us ++ vs)) r
  behind_more ps qs us vs None = refl
  behind_more ps qs us vs (Some r) =
      λ i. Some (record { arrivals = sym (append_assoc ps qs r.arrivals) i; tests = sym (append_assoc us vs r.tests) i; left = r.left })

  arriving_behind : (x : Place) (q : Progress V) (ps : List (Place × Progress V)) (r : Option (Route V F))
      → option_map (arriving x q) (option_map (behind ps []) r) ≡ option_map (behind ((x, q) ∷ ps) []) r
  arriving_behind x q ps None = refl
  arriving_behind x q ps (Some r) = refl

  -- a route goes over the ports first
  pub route_node : (t : Tree V F) (ds : List Decision) → route t ds ≡ option_map (behind (arrivals_of t) []) (route (node_of t) ds)
  route_node (over p end') ds = behind_nothing (route (over p end') ds)
  route_node (arrives place p t) ds =
      ap (option_map (arriving place p)) (route_node t ds) ∙ arriving_behind place p (arrivals_of t) (route (node_of t) ds)
  route_node (tests asking p test held broken) ds = behind_nothing (route (tests asking p test held broken) ds)
  route_node (splits p branches) ds = behind_nothing (route (splits p branches) ds)

  side_route : (asking : Asking) (p : Progress V) (test : F) (held broken : Tree V F) (truth : Bool) (ds : List Decision) →
      route (tests asking p test held broken) (decision_at asking truth ∷ ds)
      ≡ option_map (behind [] ((test, truth) ∷ [])) (route (if truth then held else broken) ds)
  side_route at_if p test held broken true ds = refl
  side_route at_if p test held broken false ds = refl
  side_route at_constrain p test held broken true ds = refl
  side_route at_constrain p test held broken false ds = refl

  copy_route_at : (branches : Copies V F) (n : ℕ) (t : Tree V F) (ds : List Decision) → copy_at branches n ≡ Some t → copy_route branches n ds ≡ route t ds
  copy_route_at no_copies n t ds e = let bad : None ≡ Some t = e in cc
  copy_route_at (copy_and u branches) zero t ds e = let same : u ≡ t = some_same e in ap (λ x. route x ds) same
  copy_route_at (copy_and u branches) (suc n) t ds e = copy_route_at branches n t ds e

  pub node_waits : (t : Tree V F) → route (node_of t) [] ≡ Some (waiting (node_of t))
  node_waits (over p end') = refl
  node_waits (arrives place p t) = node_waits t
  node_waits (tests asking p test held broken) = refl
  node_waits (splits p branches) = refl

abbrev pub IsSomeWay : {A : Type 0} → Option A → Type 0
IsSomeWay None = ⊥
IsSomeWay (Some a) = Unit {0}

module _ {V F : Type 0} where
  pub always_way : (t : Tree V F) → IsSomeWay (route t [])
  always_way (over p end') = tt
  always_way (arrives place p t) = mapped_way (route t []) (always_way t)
    where
      mapped_way : (r : Option (Route V F)) → IsSomeWay r → IsSomeWay (option_map (arriving place p) r)
      mapped_way None h = h
      mapped_way (Some r) h = tt
  always_way (tests asking p test held broken) = tt
  always_way (splits p branches) = tt

module _ (s : SymStart) where
  pub at_start : IsAt s (first_point s)
  at_start = record { arrivals = []; places = refl; leads = λ ds. behind_nothing (route s.tree ds) }

  pub at_next : (a b : Point) → IsAt s a → Arrives s a b → IsAt s b
  at_next a b h n = record {
    arrivals = h.arrivals ++ arrivals_of a.tree;
    places = map_append (λ (at : Place × Progress LinearTerm). at.0) h.arrivals (arrivals_of a.tree) ∙ (ap (λ ps. ps ++ places_of a.tree) h.places ∙ sym n.places);
    leads = λ ds.
        ap (λ xs. route s.tree (xs ++ ds)) n.decisions
        ∙ (h.leads ds ∙ (ap (option_map (behind h.arrivals a.tests)) (route_node a.tree ds)
        ∙ (behind_more h.arrivals (arrivals_of a.tree) a.tests [] (route (node_of a.tree) ds)
        ∙ (λ i. option_map (behind (h.arrivals ++ arrivals_of a.tree) ((append_nil a.tests ∙ sym n.tests) i)) (route (sym n.tree i) ds)))));
  }

  pub at_side : (a : Point) (asking : Asking) (p : Progress LinearTerm) (test : FormulaTree) (held broken : SymTree) (truth : Bool)
      → a.tree ≡ tests asking p test held broken → IsAt s a → IsAt s (sided a asking test truth (if truth then held else broken))
  at_side a asking p test held broken truth e h = record {
    arrivals = h.arrivals;
    places = h.places;
    leads = λ ds.
        ap (route s.tree) (append_assoc a.decisions (decision_at asking truth ∷ []) ds)
        ∙ (h.leads (decision_at asking truth ∷ ds)
        ∙ (ap (λ t. option_map (behind h.arrivals a.tests) (route t (decision_at asking truth ∷ ds))) e
        ∙ (ap (option_map (behind h.arrivals a.tests)) (side_route asking p test held broken truth ds)
        ∙ (behind_more h.arrivals [] a.tests ((test, truth) ∷ []) (route (if truth then held else broken) ds)
        ∙ ap (λ ps. option_map (behind ps (a.tests ++ (test, truth) ∷ [])) (route (if truth then held else broken) ds)) (append_nil h.arrivals)))));
  }

  pub at_copy : (a : Point) (p : Progress LinearTerm) (branches : Copies LinearTerm FormulaTree) (n : ℕ) (t : SymTree)
      → a.tree ≡ splits p branches → copy_at branches n ≡ Some t → IsAt s a → IsAt s (copied a n t)
  at_copy a p branches n t e k h = record {
    arrivals = h.arrivals;
    places = h.places;
    leads = λ ds.
        ap (route s.tree) (append_assoc a.decisions (Copy n ∷ []) ds)
        ∙ (h.leads (Copy n ∷ ds) ∙ (ap (λ x. option_map (behind h.arrivals a.tests) (route x (Copy n ∷ ds))) e
        ∙ ap (option_map (behind h.arrivals a.tests)) (copy_route_at branches n t ds k)));
  }

  -- ---- where a point waits

  -- it is a node, and the widths are those there
  pub record IsWaiting (b : Point) : Type 0 where
    pub at : IsAt s b
    pub node : route b.tree [] ≡ Some (waiting b.tree)
    pub widths : b.widths ≡ s.unknowns ++ (progress_of b.tree).choices

  abbrev pub way_at : (b : Point) → IsWaiting b → SymRoute
  way_at b w = record { arrivals = w.at.arrivals; tests = b.tests; left = b.tree }

  pub led : (b : Point) (w : IsWaiting b) → Leads s b.decisions (way_at b w)
  led b w =
      ap (route s.tree) (sym (append_nil b.decisions))
      ∙ (w.at.leads [] ∙ (ap (option_map (behind w.at.arrivals b.tests)) w.node
      ∙ (λ i. Some (record { arrivals = append_nil w.at.arrivals i; tests = append_nil b.tests i; left = b.tree }))))

  pub condition_there : (b : Point) (w : IsWaiting b) → condition_on s (way_at b w) ≡ condition_at s b
  condition_there b w = λ i. condition_of s.most_choices (sym w.widths i) (tests_on s (way_at b w))

  pub only_way : (ds : List Decision) (p q : SymRoute) → Leads s ds p → Leads s ds q → p ≡ q
  only_way ds p q h k = some_same (sym h ∙ k)

  pub waits_next : (a b : Point) → IsAt s a → Arrives s a b → IsWaiting b
  waits_next a b at n = record {
    at = at_next a b at n;
    node = subst (λ t. route t [] ≡ Some (waiting t)) (sym n.tree) (node_waits a.tree);
    widths = n.widths;
  }

  pub waits_at_test : (b : Point) (asking : Asking) (p : Progress LinearTerm) (test : FormulaTree) (held broken : SymTree)
      → b.tree ≡ tests asking p test held broken → IsAt s b → b.widths ≡ s.unknowns ++ p.choices → IsWaiting b
  waits_at_test b asking p test held broken e at w = record {
    at = at;
    node = subst (λ t. route t [] ≡ Some (waiting t)) (sym e) refl;
    widths = w ∙ ap (λ (t : SymTree). s.unknowns ++ (progress_of t).choices) (sym e);
  }
