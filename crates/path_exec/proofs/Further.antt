-- Guided runs, one decision further.
use Rattle.std.proofs.Common.{◌≡◌, ◌↔◌, ℕ, Bool, true, false, List, [], ◌∷◌, ◌++◌, Some, None, option_map, refl, sym, ap, subst, ◌∙◌, if◌then◌else◌}
use Rattle.lin_term.specs.Terms.{LinearTerm}
use Rattle.path_formula.specs.Formulas.{FormulaTree}
use Rattle.sefl_meaning.specs.declared.walk.Decision.{Decision}
use Rattle.sefl_meaning.specs.declared.walk.Decision.TheVariants.{Then, Else, Pass, Broken, Copy}
use Rattle.sefl_meaning.specs.Courses.{Asking, at_if, at_constrain, Progress}
use Rattle.sefl_meaning.specs.Trees.{over, arrives, tests, splits}
use Rattle.sefl_meaning.specs.Taken.{decision_at}
use Rattle.sefl_meaning.specs.Routes.{Has, IsOpen, offers, route, truth_of}
use Rattle.exact_records.specs.Records.{SymRoute, SymTree}
use Rattle.exact_records.specs.Points.{Point, sided}
use Rattle.exact_records.specs.Work.{begun_at}
use Rattle.exact_records.proofs.Arriving.{some_same}
use Rattle.path_exec.specs.declared.engine.Next.{Next}
use Rattle.path_exec.specs.declared.engine.Next.TheVariants.{AtEnd, AtNode}
use Rattle.path_exec.specs.declared.engine.Offer.{Offer}
use Rattle.path_exec.specs.declared.engine.Offer.TheVariants.{If, Constrain, Fork}
use Rattle.path_exec.specs.Following.{Turns, location_of}
use Rattle.path_exec.specs.Location.{point_at, waiting_at}
use Rattle.path_exec.specs.Offers.{IsAsking, IsNode, IsOver, is_offered, next_by, next_point}
use Rattle.path_exec.specs.Stepping.{IsLedThere, IsSideBehind, SideBehind, is_side}
use Rattle.path_exec.specs.Views.{Views}

-- ---- decisions of tests

abbrev asking_in : SymTree → Asking → Asking
asking_in (over p end') other = other
asking_in (arrives place p t) other = other
asking_in (tests asking p test held broken) other = asking
asking_in (splits p branches) other = other

abbrev IsAtTest : SymTree → Type 0
IsAtTest (over p end') = ⊥
IsAtTest (arrives place p t) = ⊥
IsAtTest (tests asking p test held broken) = Unit {0}
IsAtTest (splits p branches) = ⊥

truth_decides : (asking : Asking) (d : Decision) (truth : Bool) → truth_of asking d ≡ Some truth → decision_at asking truth ≡ d
truth_decides at_if Then truth e = let same : true ≡ truth = some_same e in ap (decision_at at_if) (sym same)
truth_decides at_if Else truth e = let same : false ≡ truth = some_same e in ap (decision_at at_if) (sym same)
truth_decides at_if Pass truth e = let bad : None ≡ Some truth = e in cc
truth_decides at_if Broken truth e = let bad : None ≡ Some truth = e in cc
truth_decides at_if (Copy n) truth e = let bad : None ≡ Some truth = e in cc
truth_decides at_constrain Then truth e = let bad : None ≡ Some truth = e in cc
truth_decides at_constrain Else truth e = let bad : None ≡ Some truth = e in cc
truth_decides at_constrain Pass truth e = let same : true ≡ truth = some_same e in ap (decision_at at_constrain) (sym same)
truth_decides at_constrain Broken truth e = let same : false ≡ truth = some_same e in ap (decision_at at_constrain) (sym same)
truth_decides at_constrain (Copy n) truth e = let bad : None ≡ Some truth = e in cc

-- a side has a truth
if_truth : (d : Decision) → is_side If d ≡ true → (truth : Bool) × (truth_of at_if d ≡ Some truth)
if_truth Then e = (true, refl)
if_truth Else e = (false, refl)
if_truth Pass e = let bad : false ≡ true = e in cc
if_truth Broken e = let bad : false ≡ true = e in cc
if_truth (Copy n) e = let bad : false ≡ true = e in cc

constrain_truth : (d : Decision) → is_side Constrain d ≡ true → (truth : Bool) × (truth_of at_constrain d ≡ Some truth)
constrain_truth Then e = let bad : false ≡ true = e in cc
constrain_truth Else e = let bad : false ≡ true = e in cc
constrain_truth Pass e = (true, refl)
constrain_truth Broken e = (false, refl)
constrain_truth (Copy n) e = let bad : false ≡ true = e in cc

-- and what is no side has none
if_side : (d : Decision) (truth : Bool) → is_side If d ≡ false → truth_of at_if d ≡ Some truth → ⊥
if_side Then truth e k = let bad : true ≡ false = e in cc
if_side Else truth e k = let bad : true ≡ false = e in cc
if_side Pass truth e k = let bad : None ≡ Some truth = k in cc
if_side Broken truth e k = let bad : None ≡ Some truth = k in cc
if_side (Copy n) truth e k = let bad : None ≡ Some truth = k in cc

constrain_side : (d : Decision) (truth : Bool) → is_side Constrain d ≡ false → truth_of at_constrain d ≡ Some truth → ⊥
constrain_side Then truth e k = let bad : None ≡ Some truth = k in cc
constrain_side Else truth e k = let bad : None ≡ Some truth = k in cc
constrain_side Pass truth e k = let bad : true ≡ false = e in cc
constrain_side Broken truth e k = let bad : true ≡ false = e in cc
constrain_side (Copy n) truth e k = let bad : None ≡ Some truth = k in cc

-- a side is offered
pub side_offered : (offer : Offer) (d : Decision) → is_side offer d ≡ true → is_offered offer d ≡ true
side_offered If Then e = refl
side_offered If Else e = refl
side_offered If Pass e = e
side_offered If Broken e = e
side_offered If (Copy n) e = e
side_offered Constrain Then e = e
side_offered Constrain Else e = e
side_offered Constrain Pass e = refl
side_offered Constrain Broken e = refl
side_offered Constrain (Copy n) e = e
side_offered (Fork copies) d e = let bad : false ≡ true = e in cc

no_side : (offer : Offer) (t : SymTree) (d : Decision) → IsNode offer t → is_side offer d ≡ false
    → (asking : Asking) (p : Progress LinearTerm) (test : FormulaTree) (held broken : SymTree) (truth : Bool)
    → t ≡ tests asking p test held broken → truth_of asking d ≡ Some truth → ⊥
no_side If t d h e asking p test held broken truth is k =
    let same : asking ≡ at_if = ap (λ (u : SymTree). asking_in u at_if) (sym is ∙ h.is) in
    if_side d truth e (subst (λ (a : Asking). truth_of a d ≡ Some truth) same k)
no_side Constrain t d h e asking p test held broken truth is k =
    let same : asking ≡ at_constrain = ap (λ (u : SymTree). asking_in u at_if) (sym is ∙ h.is) in
    constrain_side d truth e (subst (λ (a : Asking). truth_of a d ≡ Some truth) same k)
no_side (Fork copies) t d h e asking p test held broken truth is k = subst IsAtTest (sym is ∙ h.is) tt

module _ {P O N D T : Type 0} (x : Views P O N D T) where
  -- what is not offered where decisions lead is not open behind them
  pub closed_there : (next : Next O N) (d : Decision) → IsLedThere x next → Turns x next d None
      → ((t : SymTree) (ds : List Decision) (e : Decision) (r : SymRoute) → route t ds ≡ Some r → (IsOpen t (ds ++ e ∷ []) ↔ Has (offers r.left) e))
      → IsOpen x.start.tree ((location_of x next).decisions ++ d ∷ []) → ⊥
  closed_there next d l none more h =
      none (subst (λ (t : SymTree). Has (offers t) d) l.led.left ((more x.start.tree (location_of x next).decisions d l.led.way l.led.leads).0 h))

  pub no_side_at_end : (o : O) (d : Decision) → IsOver (waiting_at x.start (x.over_at o)).tree → SideBehind x (AtEnd o) d None
  no_side_at_end o d h = λ asking p test held broken truth is k. subst IsAtTest (sym is ∙ h.is) tt

  pub no_side_at_node : (node : N) (offer : Offer) (d : Decision) → IsNode offer (waiting_at x.start (x.node_at node)).tree → is_side offer d ≡ false → SideBehind x (AtNode node offer) d None
  no_side_at_node node offer d h e = no_side offer (waiting_at x.start (x.node_at node)).tree d h e

  module _ (node : N) (d : Decision) (place : P)
      (f : (begun : ℕ) (c : Point) → next_point (point_at begun (x.node_at node)) d ≡ Some c → point_at begun (x.place_at place) ≡ c) where
    asked : (offer : Offer) (asking : Asking) → IsAsking asking (waiting_at x.start (x.node_at node)).tree → (truth : Bool) → truth_of asking d ≡ Some truth
        → IsSideBehind x (AtNode node offer) d place
    asked offer asking h truth e =
        let here = waiting_at x.start (x.node_at node) in
        let side = if truth then h.held else h.broken in
        let next : next_point here d ≡ Some (sided here asking h.test truth side) =
        ap (λ (t : SymTree). next_by t here d) h.is
        ∙ ap (option_map (λ (b : Bool). sided here asking h.test b (if b then h.held else h.broken))) e in
        let is = f (begun_at x.start.tree (x.node_at node).decisions) (sided here asking h.test truth side) next in
        record {
          asking = asking;
          progress = h.progress;
          test = h.test;
          held = h.held;
          broken = h.broken;
          truth = truth;
          waits = h.is;
          offered = e;
          decisions = ap (λ (a : Point). a.decisions) is ∙ ap (λ (c : Decision). (x.node_at node).decisions ++ c ∷ []) (truth_decides asking d truth e);
          tests_are = ap (λ (a : Point). a.tests) is;
          widths = ap (λ (a : Point). a.widths) is;
        }

    pub side_there : (offer : Offer) → IsNode offer (waiting_at x.start (x.node_at node)).tree → is_side offer d ≡ true → SideBehind x (AtNode node offer) d (Some place)
    side_there If h e = let t = if_truth d e in asked If at_if h t.0 t.1
    side_there Constrain h e = let t = constrain_truth d e in asked Constrain at_constrain h t.0 t.1
    side_there (Fork copies) h e = let bad : false ≡ true = e in cc
