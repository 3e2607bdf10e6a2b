-- Where decisions lead in a tree, its ids are the net's own and its values have the widths of their cells.
use Rattle.std.proofs.Common.{ℕ, zero, suc, Bool, true, false, List, [], ◌∷◌, Option, Some, None, option_map}
use Rattle.std.specs.List.{AllByRecursion}
use Rattle.std.specs.Option.{IfSome}
use Rattle.net_check.specs.Network.{Network}
use Rattle.path_formula.specs.Formulas.{FormulaTree}
use Rattle.lin_term.specs.Terms.{LinearTerm}
use Rattle.sefl_meaning.specs.declared.walk.Decision.{Decision}
use Rattle.sefl_meaning.specs.declared.walk.Place.{Place}
use Rattle.sefl_meaning.specs.Courses.{Progress}
use Rattle.sefl_meaning.specs.Ids.{EachHasOwnIds, HasOwnIds, IsNode}
use Rattle.sefl_meaning.specs.Routes.{arriving, by_number, by_truth, copy_route, number_of, places_on, route, taking, truth_of}
use Rattle.sefl_meaning.specs.Trees.{Copies, arrives, copy_and, no_copies, over, splits, tests}
use Rattle.sefl_meaning.specs.Valued.{EachTyped, TreeTyped}
use Rattle.term_values.specs.Fits.{typed_fits}
use Rattle.exact_records.specs.Records.{SymRoute, SymTree}

module _ (net : Network) (unknowns : List ℕ) where
  abbrev pub IsOwnTree : SymTree → Type 0
  IsOwnTree t = HasOwnIds net t × TreeTyped typed_fits unknowns t

  abbrev AreOwnTrees : Copies LinearTerm FormulaTree → Type 0
  AreOwnTrees branches = EachHasOwnIds net branches × EachTyped typed_fits unknowns branches

  pub record IsOwnRoute (r : SymRoute) : Type 0 where
    pub places : AllByRecursion (λ place. IsNode net place.node) (places_on r)
    pub left : IsOwnTree r.left

  arrived : (place : Place) (p : Progress LinearTerm) (o : Option SymRoute) → IsNode net place.node → IfSome o IsOwnRoute
      → IfSome (option_map (arriving place p) o) IsOwnRoute
  arrived place p None there h = tt
  arrived place p (Some r) there h = record { places = (there, h.places); left = h.left }

  took : (test : FormulaTree) (truth : Bool) (o : Option SymRoute) → IfSome o IsOwnRoute → IfSome (option_map (taking test truth) o) IsOwnRoute
  took test truth None h = tt
  took test truth (Some r) h = record { places = h.places; left = h.left }

  decided : (truth : Option Bool) (test : FormulaTree) (held broken : Option SymRoute) → IfSome held IsOwnRoute → IfSome broken IsOwnRoute
      → IfSome (by_truth truth test held broken) IsOwnRoute
  decided None test held broken h k = tt
  decided (Some true) test held broken h k = took test true held h
  decided (Some false) test held broken h k = took test false broken k

  split : (number : Option ℕ) (copy : ℕ → Option SymRoute) → ((n : ℕ) → IfSome (copy n) IsOwnRoute) → IfSome (by_number number copy) IsOwnRoute
  split None copy h = tt
  split (Some number) copy h = h number

  mutual
    pub own_route : (t : SymTree) (ds : List Decision) → IsOwnTree t → IfSome (route t ds) IsOwnRoute
    own_route (over p end') [] h = record { places = tt; left = h }
    own_route (over p end') (d ∷ ds) h = tt
    own_route (arrives place p t) ds h = arrived place p (route t ds) h.0.0 (own_route t ds (h.0.2, h.1.1))
    own_route (tests asking p test held broken) [] h = record { places = tt; left = h }
    own_route (tests asking p test held broken) (d ∷ ds) h =
        decided (truth_of asking d) test (route held ds) (route broken ds) (own_route held ds (h.0.1, h.1.1)) (own_route broken ds (h.0.2, h.1.2))
    own_route (splits p branches) [] h = record { places = tt; left = h }
    own_route (splits p branches) (d ∷ ds) h =
        split (number_of d) (λ number. copy_route branches number ds) (λ number. own_copy branches number ds (h.0.1, h.1.1))

    own_copy : (branches : Copies LinearTerm FormulaTree) (number : ℕ) (ds : List Decision) → AreOwnTrees branches → IfSome (copy_route branches number ds) IsOwnRoute
    own_copy no_copies number ds h = tt
    own_copy (copy_and t branches) zero ds h = own_route t ds (h.0.0, h.1.0)
    own_copy (copy_and t branches) (suc number) ds h = own_copy branches number ds (h.0.1, h.1.1)
