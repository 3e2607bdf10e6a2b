-- Each split on the way has a copy.
use Rattle.std.proofs.Common.{ℕ, zero, suc, Bool, true, false, List, [], ◌∷◌, ◌++◌, subst, Option, Some, None, option_map}
use Rattle.sefl_meaning.specs.declared.walk.Decision.{Decision}
use Rattle.sefl_meaning.specs.declared.walk.Place.{Place}
use Rattle.sefl_meaning.specs.Courses.{Progress}
use Rattle.sefl_meaning.specs.Trees.{Tree, over, arrives, tests, splits, Copies, no_copies, copy_and}
use Rattle.sefl_meaning.specs.Routes.{EachSplits, Route, Splits, arriving, behind, by_number, by_truth, copy_route, number_of, route, taking, truth_of}
use Rattle.exact_records.specs.Records.{SymStart}
use Rattle.exact_records.specs.Points.{IsAt, Point, node_of}

module _ {V F : Type 0} where
  -- what is left of a route, if there is one, has the property
  abbrev IsLeftSo : Option (Route V F) → Type 0
  IsLeftSo None = Unit {0}
  IsLeftSo (Some r) = Splits r.left

  so_arriving : (place : Place) (p : Progress V) (r : Option (Route V F)) → IsLeftSo r → IsLeftSo (option_map (arriving place p) r)
  so_arriving place p None h = tt
  so_arriving place p (Some r) h = h

  so_taking : (test : F) (truth : Bool) (r : Option (Route V F)) → IsLeftSo r → IsLeftSo (option_map (taking test truth) r)
  so_taking test truth None h = tt
  so_taking test truth (Some r) h = h

  so_by_truth : (truth : Option Bool) (test : F) (held broken : Option (Route V F)) → IsLeftSo held → IsLeftSo broken → IsLeftSo (by_truth truth test held broken)
  so_by_truth None test held broken h k = tt
  so_by_truth (Some true) test held broken h k = so_taking test true held h
  so_by_truth (Some false) test held broken h k = so_taking test false broken k

  so_by_number : (number : Option ℕ) (copy : ℕ → Option (Route V F)) → ((n : ℕ) → IsLeftSo (copy n)) → IsLeftSo (by_number number copy)
  so_by_number None copy h = tt
  so_by_number (Some n) copy h = h n

  mutual
    splits_along : (t : Tree V F) (ds : List Decision) → Splits t → IsLeftSo (route t ds)
    splits_along (over p end') [] h = h
    splits_along (over p end') (d ∷ ds) h = tt
    splits_along (arrives place p t) ds h = so_arriving place p (route t ds) (splits_along t ds h)
    splits_along (tests asking p test held broken) [] h = h
    splits_along (tests asking p test held broken) (d ∷ ds) h =
        so_by_truth (truth_of asking d) test (route held ds) (route broken ds) (splits_along held ds h.0) (splits_along broken ds h.1)
    splits_along (splits p branches) [] h = h
    splits_along (splits p branches) (d ∷ ds) h = so_by_number (number_of d) (λ n. copy_route branches n ds) (λ n. copies_along branches n ds h.1)

    copies_along : (branches : Copies V F) (n : ℕ) (ds : List Decision) → EachSplits branches → IsLeftSo (copy_route branches n ds)
    copies_along no_copies n ds h = tt
    copies_along (copy_and t branches) zero ds h = splits_along t ds h.0
    copies_along (copy_and t branches) (suc n) ds h = copies_along branches n ds h.1

  so_behind : (ps : List (Place × Progress V)) (us : List (F × Bool)) (r : Option (Route V F)) → IsLeftSo (option_map (behind ps us) r) → IsLeftSo r
  so_behind ps us None h = tt
  so_behind ps us (Some r) h = h

  so_arrived : (place : Place) (p : Progress V) (r : Option (Route V F)) → IsLeftSo (option_map (arriving place p) r) → IsLeftSo r
  so_arrived place p None h = tt
  so_arrived place p (Some r) h = h

  so_node : (t : Tree V F) → IsLeftSo (route t []) → Splits (node_of t)
  so_node (over p end') h = h
  so_node (arrives place p t) h = so_node t (so_arrived place p (route t []) h)
  so_node (tests asking p test held broken) h = h
  so_node (splits p branches) h = h

-- at the next node of a point too
pub splits_there : (s : SymStart) (a : Point) → Splits s.tree → IsAt s a → Splits (node_of a.tree)
splits_there s a h at =
    so_node a.tree (so_behind at.arrivals a.tests (route a.tree [])
    (subst IsLeftSo (at.leads []) (splits_along s.tree (a.decisions ++ []) h)))
