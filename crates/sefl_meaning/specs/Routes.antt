-- The run that is guided by decisions: the way through a tree, as far as the decisions go.
use Rattle.std.specs.Prelude.{ℕ, zero, suc, ◌≡◌, Bool, true, false, List, [], ◌∷◌, ◌++◌, length, map, Option, None, Some, option_map}
use Rattle.std.specs.List.{AllByRecursion}
use Rattle.sefl_meaning.specs.declared.walk.Decision.{Decision}
use Rattle.sefl_meaning.specs.declared.walk.Decision.TheVariants.{Then, Else, Pass, Broken, Copy}
use Rattle.sefl_meaning.specs.declared.walk.Place.{Place}
use Rattle.sefl_meaning.specs.Courses.{Asking, at_if, at_constrain, Progress}
use Rattle.sefl_meaning.specs.Trees.{Tree, over, arrives, tests, splits, Copies, no_copies, copy_and}
use Rattle.sefl_meaning.specs.Valued.{tree_valued, progress_valued}
use Rattle.sefl_meaning.specs.Walks.{Passage}
use Rattle.sefl_meaning.specs.Taken.{decision_at}
pub use Rattle.sefl_meaning.specs.Order.{Has}

-- the truth that a decision takes, where the instruction offers the decision
abbrev pub truth_of : Asking → Decision → Option Bool
truth_of at_if Then = Some true
truth_of at_if Else = Some false
truth_of at_if Pass = None
truth_of at_if Broken = None
truth_of at_if (Copy number) = None
truth_of at_constrain Then = None
truth_of at_constrain Else = None
truth_of at_constrain Pass = Some true
truth_of at_constrain Broken = Some false
truth_of at_constrain (Copy number) = None

-- the number of a copy
abbrev pub number_of : Decision → Option ℕ
number_of Then = None
number_of Else = None
number_of Pass = None
number_of Broken = None
number_of (Copy number) = Some number

-- the places that were arrived at, with what is carried there before the code of the port, the tests with the truths that
-- were taken, and what is left: it is over, or waits
pub record Route (V F : Type 0) : Type 0 where
  pub arrivals : List (Place × Progress V)
  pub tests : List (F × Bool)
  pub left : Tree V F

module _ {V F : Type 0} where
  abbrev pub waiting : Tree V F → Route V F
  waiting t = record { arrivals = []; tests = []; left = t }

  -- the route that arrives at this place first
  abbrev pub arriving : Place → Progress V → Route V F → Route V F
  arriving place p r = record r { arrivals = (place, p) ∷ r.arrivals }

  -- the route that takes this truth first
  abbrev pub taking : F → Bool → Route V F → Route V F
  taking test truth r = record r { tests = (test, truth) ∷ r.tests }

  -- the route behind these arrivals and tests
  abbrev pub behind : List (Place × Progress V) → List (F × Bool) → Route V F → Route V F
  behind before taken r = record { arrivals = before ++ r.arrivals; tests = taken ++ r.tests; left = r.left }

  abbrev pub places_on : Route V F → List Place
  places_on r = map (λ a. a.0) r.arrivals

  abbrev pub by_truth : Option Bool → F → Option (Route V F) → Option (Route V F) → Option (Route V F)
  by_truth None test held broken = None
  by_truth (Some true) test held broken = option_map (taking test true) held
  by_truth (Some false) test held broken = option_map (taking test false) broken

  abbrev pub by_number : Option ℕ → (ℕ → Option (Route V F)) → Option (Route V F)
  by_number None copy = None
  by_number (Some number) copy = copy number

  abbrev mutual
    -- the route of these decisions; None where one of them is not offered
    pub route : Tree V F → List Decision → Option (Route V F)
    route (over p end') [] = Some (waiting (over p end'))
    route (over p end') (d ∷ ds) = None
    route (arrives place p t) ds = option_map (arriving place p) (route t ds)
    route (tests asking p test held broken) [] = Some (waiting (tests asking p test held broken))
    route (tests asking p test held broken) (d ∷ ds) =
        by_truth (truth_of asking d) test (route held ds) (route broken ds)
    route (splits p branches) [] = Some (waiting (splits p branches))
    route (splits p branches) (d ∷ ds) = by_number (number_of d) (λ number. copy_route branches number ds)

    -- that of a copy, by its number among these
    pub copy_route : Copies V F → ℕ → List Decision → Option (Route V F)
    copy_route no_copies number ds = None
    copy_route (copy_and t branches) zero ds = route t ds
    copy_route (copy_and t branches) (suc number) ds = copy_route branches number ds

  -- the decisions lead along a route
  abbrev pub IsOpen : Tree V F → List Decision → Type 0
  IsOpen t ds = (r : Route V F) × (route t ds ≡ Some r)

  -- copies numbered from a number on
  abbrev pub offered_copies : ℕ → Copies V F → List Decision
  offered_copies number no_copies = []
  offered_copies number (copy_and t branches) = Copy number ∷ offered_copies (suc number) branches

  -- the decisions that go on from where a tree is over or waits, in their order
  abbrev pub offers : Tree V F → List Decision
  offers (over p end') = []
  offers (arrives place p t) = offers t
  offers (tests asking p test held broken) = decision_at asking true ∷ decision_at asking false ∷ []
  offers (splits p branches) = offered_copies 0 branches

  -- the first of these decisions that is not offered is the one at this index: those before it lead along a route
  pub record IsFirstClosed (t : Tree V F) (ds : List Decision) (index : ℕ) : Type 0 where
    pub before : List Decision
    pub closed : Decision
    pub later : List Decision
    pub is : ds ≡ before ++ closed ∷ later
    pub at : length before ≡ index
    pub way : Route V F
    pub leads : route t before ≡ Some way
    pub not_offered : Has (offers way.left) closed → ⊥

  abbrev mutual
    -- each split has at least one copy
    pub Splits : Tree V F → Type 0
    Splits (over p end') = Unit {0}
    Splits (arrives place p t) = Splits t
    Splits (tests asking p test held broken) = Splits held × Splits broken
    Splits (splits p branches) = HasCopy branches × EachSplits branches

    pub EachSplits : Copies V F → Type 0
    EachSplits no_copies = Unit {0}
    EachSplits (copy_and t branches) = Splits t × EachSplits branches

    pub HasCopy : Copies V F → Type 0
    HasCopy no_copies = ⊥
    HasCopy (copy_and t branches) = Unit {0}

-- functions of the values and of the truths
abbrev pub route_valued : {V F W G : Type 0} → (V → W) → (F → G) → Route V F → Route W G
route_valued f g r = record {
  arrivals = map (λ a. (a.0, progress_valued f a.1)) r.arrivals;
  tests = map (λ test. (g test.0, test.1)) r.tests;
  left = tree_valued f g r.left;
}

-- each test has the truth that was taken
abbrev pub Holds : {V : Type 0} → Route V Bool → Type 0
Holds r = AllByRecursion (λ test. test.0 ≡ test.1) r.tests

-- the walk goes by its decisions, at the truths of the tests, to its end
pub record IsWay (find : List Decision → Option (Route ℕ Bool)) (w : Passage) : Type 0 where
  pub way : Route ℕ Bool
  pub found : find w.decisions ≡ Some way
  pub arrivals : way.arrivals ≡ w.arrivals
  pub holds : Holds way
  pub left : way.left ≡ over w.progress w.end'
