-- Where an exploration stands, and what is known there.
use Rattle.std.specs.Prelude.{ℕ, zero, suc, ◌≡◌, ◌-◌, Bool, true, false, List, [], ◌∷◌, ◌++◌, length, map, replicate, Option, None, Some, option_map, if◌then◌else◌}
use Rattle.std.specs.List.{AllByRecursion}
use Rattle.lin_term.specs.Terms.{LinearTerm}
use Rattle.path_formula.specs.Formulas.{FormulaTree}
use Rattle.path_cond.specs.Seen.{AllTyped, itself}
use Rattle.refutation_check.specs.Longer.{condition_of}
use Rattle.refutation_check.specs.declared.outcome.Cause.{Cause}
use Rattle.refutation_check.specs.declared.outcome.Cause.TheVariants.{Outside, Cases, Coupled}
use Rattle.refutation_check.specs.declared.outcome.Verdict.{Verdict}
use Rattle.refutation_check.specs.declared.outcome.Verdict.TheVariants.{Sat, Undecided}
use Rattle.sefl_meaning.specs.declared.walk.Decision.{Decision}
use Rattle.sefl_meaning.specs.declared.walk.Decision.TheVariants.{Copy}
use Rattle.sefl_meaning.specs.declared.walk.Place.{Place}
use Rattle.sefl_meaning.specs.Courses.{Asking, Progress}
use Rattle.sefl_meaning.specs.Trees.{Tree, over, arrives, tests, splits, Copies, no_copies, copy_and}
use Rattle.sefl_meaning.specs.Taken.{decision_at}
use Rattle.sefl_meaning.specs.Routes.{behind, route}
use Rattle.sefl_meaning.specs.Start.{progress_of}
use Rattle.exact_records.specs.Records.{IsVerdictOn, RecordTree, SymCondition, SymStart, SymTree, injection_tests}
use Rattle.exact_records.specs.Exact.{IsGood, IsUnrefuted, IsWithin}
use Rattle.exact_records.specs.Shapes.{Continues, Piece}

-- what is known at a point: the verdict on its condition; or the one before its last test, None where nothing was decided
pub data Known : Type 0 where
  decided : Verdict → Known
  to_decide : Option Verdict → Known

-- where a run stands: what was decided, the ports that were arrived at, the tests with their truths, the widths of the symbols,
-- and what comes
pub record Point : Type 0 where
  pub decisions : List Decision
  pub places : List Place
  pub tests : List (FormulaTree × Bool)
  pub widths : List ℕ
  pub tree : SymTree

module _ {V F : Type 0} where
  -- the tree at its next node, behind the ports on the way to it
  abbrev pub node_of : Tree V F → Tree V F
  node_of (over p end') = over p end'
  node_of (arrives place p t) = node_of t
  node_of (tests asking p test held broken) = tests asking p test held broken
  node_of (splits p branches) = splits p branches

  -- the ports on the way, with what is carried there
  abbrev pub arrivals_of : Tree V F → List (Place × Progress V)
  arrivals_of (over p end') = []
  arrivals_of (arrives place p t) = (place, p) ∷ arrivals_of t
  arrivals_of (tests asking p test held broken) = []
  arrivals_of (splits p branches) = []

  abbrev pub places_of : Tree V F → List Place
  places_of t = map (λ a. a.0) (arrivals_of t)

  -- the copy of this number
  abbrev pub copy_at : Copies V F → ℕ → Option (Tree V F)
  copy_at no_copies n = None
  copy_at (copy_and t branches) zero = Some t
  copy_at (copy_and t branches) (suc n) = copy_at branches n

abbrev pub piece_of : Point → Piece LinearTerm FormulaTree
piece_of a = record { decisions = a.decisions; tree = a.tree }

-- the point behind a side of a test
abbrev pub sided : Point → Asking → FormulaTree → Bool → SymTree → Point
sided a asking test truth side =
    record {
      decisions = a.decisions ++ decision_at asking truth ∷ [];
      places = a.places;
      tests = a.tests ++ (test, truth) ∷ [];
      widths = a.widths;
      tree = side;
    }

-- and that of a copy
abbrev pub copied : Point → ℕ → SymTree → Point
copied a number t = record a { decisions = a.decisions ++ Copy number ∷ []; tree = t }

-- the verdict on the condition, or on that without its last symbols, which no formula has
pub record IsKnown (c : SymCondition) (verdict : Verdict) : Type 0 where
  pub first : List ℕ
  pub more : List ℕ
  pub widths : c.widths ≡ first ++ more
  pub typed : AllTyped itself first c.entries
  pub is : IsVerdictOn (condition_of c.most_choices first c.entries) verdict

-- with zeros behind the values, until there are this many
abbrev pub filled : ℕ → List ℕ → List ℕ
filled count values = values ++ replicate (count - length values) 0

abbrev pub filled_cause : ℕ → Cause → Cause
filled_cause count (Outside pick values) = Outside pick (filled count values)
filled_cause count (Cases number) = Cases number
filled_cause count (Coupled number) = Coupled number

-- the verdict with a value for each of this many symbols: those that no formula has are 0
abbrev pub filled_verdict : ℕ → Verdict → Verdict
filled_verdict count (Sat values) = Sat (filled count values)
filled_verdict count (Undecided cause) = Undecided (filled_cause count cause)

-- with what is explored
module _ (s : SymStart) where
  -- the point before the injection's port
  abbrev pub first_point : Point
  first_point = record { decisions = []; places = []; tests = []; widths = s.unknowns; tree = s.tree }

  -- all tests with their truths, those of the injection first
  abbrev pub condition_at : Point → SymCondition
  condition_at a = condition_of s.most_choices a.widths (injection_tests s ++ a.tests)

  -- the run came from the start: whatever decisions follow, they lead on from here
  pub record IsAt (a : Point) : Type 0 where
    pub arrivals : List (Place × Progress LinearTerm)
    pub places : map (λ at. at.0) arrivals ≡ a.places
    pub leads : (ds : List Decision) → route s.tree (a.decisions ++ ds) ≡ option_map (behind arrivals a.tests) (route a.tree ds)

  -- the second point is that of the first at its next node
  pub record Arrives (a b : Point) : Type 0 where
    pub decisions : b.decisions ≡ a.decisions
    pub places : b.places ≡ a.places ++ places_of a.tree
    pub tests : b.tests ≡ a.tests
    pub tree : b.tree ≡ node_of a.tree
    pub widths : b.widths ≡ s.unknowns ++ (progress_of b.tree).choices
    pub more : List ℕ
    pub grown : b.widths ≡ a.widths ++ more

  -- a point behind a test, with the verdict before it
  pub record IsBehindTest (a : Point) (before : Verdict) : Type 0 where
    pub parent : Point
    pub at : IsAt parent
    pub asking : Asking
    pub progress : Progress LinearTerm
    pub test : FormulaTree
    pub held : SymTree
    pub broken : SymTree
    pub waits : parent.tree ≡ tests asking progress test held broken
    pub widths : parent.widths ≡ s.unknowns ++ progress.choices
    pub truth : Bool
    pub is : a ≡ sided parent asking test truth (if truth then held else broken)
    pub known : IsKnown (condition_at parent) before

  -- nothing was decided yet
  pub record IsFirst (a : Point) : Type 0 where
    pub decisions : a.decisions ≡ []
    pub tests : a.tests ≡ []
    pub widths : a.widths ≡ s.unknowns

  abbrev pub IsFound : Point → Known → Type 0
  IsFound a (decided verdict) = IsKnown (condition_at a) verdict
  IsFound a (to_decide None) = IsFirst a
  IsFound a (to_decide (Some before)) = IsBehindTest a before

  -- work that is left
  pub record IsPending (a : Point) (known : Known) : Type 0 where
    pub at : IsAt a
    pub unrefuted : IsUnrefuted s a.decisions
    pub found : IsFound a known

  -- the verdict before a refuted side, as it is written: it has a value for each symbol of its parent
  abbrev pub IsBefore : Point → Option Verdict → Option Verdict → Type 0
  IsBefore a None written = written ≡ None
  IsBefore a (Some before) None = ⊥
  IsBefore a (Some before) (Some verdict) =
      (b : IsBehindTest a before) → IsVerdictOn (condition_at b.parent) verdict

-- a point, and what is known there
abbrev pub Obligation : Type 0
Obligation = Point × Known

-- an obligation for each copy, numbered from a number on
abbrev pub copy_obligations : Point → Verdict → ℕ → Copies LinearTerm FormulaTree → List Obligation
copy_obligations a verdict number no_copies = []
copy_obligations a verdict number (copy_and t branches) = (copied a number t, decided verdict) ∷ copy_obligations a verdict (suc number) branches

-- an obligation for each side of a test
abbrev pub side_obligations : Point → Verdict → Asking → FormulaTree → SymTree → SymTree → List Obligation
side_obligations a verdict asking test held broken =
    (sided a asking test true held, to_decide (Some verdict)) ∷ (sided a asking test false broken, to_decide (Some verdict)) ∷ []

abbrev pub pieces_of : List Obligation → List (Piece LinearTerm FormulaTree)
pieces_of obligations = map (λ obligation. piece_of obligation.0) obligations

-- the records stand for what is done, within the limit, and the obligations for what is left
pub record Stands (s : SymStart) (limit : ℕ) (done : List RecordTree) (obligations : List Obligation) : Type 0 where
  pub continues : Continues s.tree limit done (pieces_of obligations)
  pub good : AllByRecursion (IsGood s) done
  pub pending : AllByRecursion (λ obligation. IsPending s obligation.0 obligation.1) obligations
  pub within : IsWithin limit done
