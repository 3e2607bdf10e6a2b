-- Records of an exploration, and what each means by itself.
use Rattle.std.specs.Prelude.{ℕ, ◌≡◌, Bool, true, List, [], ◌∷◌, ◌++◌, map, Option, None, Some}
use Rattle.lin_term.specs.Terms.{LinearTerm}
use Rattle.path_formula.specs.Formulas.{FormulaTree}
use Rattle.path_cond.specs.Seen.{ConditionOf, AllTyped, holds_at, itself}
use Rattle.refutation_check.specs.Seen.{IsAccepted, IsLicensed, IsMetBy, IsRefuted, IsUndecidedBy}
use Rattle.refutation_check.specs.Longer.{condition_of, with_entries}
use Rattle.refutation_check.specs.declared.outcome.Verdict.{Verdict}
use Rattle.refutation_check.specs.declared.outcome.Verdict.TheVariants.{Sat, Undecided}
use Rattle.refutation_check.specs.declared.steps.Refute.{Refute}
use Rattle.sefl_meaning.specs.declared.walk.Decision.{Decision}
use Rattle.sefl_meaning.specs.declared.walk.Place.{Place}
use Rattle.sefl_meaning.specs.declared.walk.End.{End}
use Rattle.sefl_meaning.specs.Courses.{Asking, Progress}
use Rattle.sefl_meaning.specs.Trees.{Tree, over, tests}
use Rattle.sefl_meaning.specs.Routes.{IsOpen, Route, places_on, route, truth_of}
use Rattle.sefl_meaning.specs.Start.{Start, tests_on, widths_on}
use Rattle.sefl_meaning.specs.Fields.{Fields, fields_of}
use Rattle.sefl_meaning.specs.Injected.{FitWidths}

-- trees, routes, starts and conditions over terms and formulas
abbrev pub SymTree : Type 0
SymTree = Tree LinearTerm FormulaTree

abbrev pub SymRoute : Type 0
SymRoute = Route LinearTerm FormulaTree

abbrev pub SymStart : Type 0
SymStart = Start LinearTerm FormulaTree

abbrev pub SymCondition : Type 0
SymCondition = ConditionOf FormulaTree

-- A record, by the decisions that lead to it: a path with its places, its end, what is carried then and its verdict; a side
-- that is refuted, with the verdict before its last formula, if it has one; or decisions that were not tried.
pub data RecordTree : Type 0 where
  path : List Decision → List Place → End → Fields LinearTerm → Verdict → RecordTree
  pruned : List Decision → Option Verdict → List Refute → RecordTree
  unexplored : List Decision → RecordTree

abbrev pub decisions_of : RecordTree → List Decision
decisions_of (path ds places end' fields verdict) = ds
decisions_of (pruned ds before refutation) = ds
decisions_of (unexplored ds) = ds

-- the condition with one formula more
abbrev pub with_test : SymCondition → FormulaTree → Bool → SymCondition
with_test c test truth = with_entries c ((test, truth) ∷ [])

-- the values make each formula of the condition as it must be
abbrev pub Satisfy : List ℕ → SymCondition → Type 0
Satisfy values c = holds_at itself c values ≡ true

-- the refutation is accepted of the condition, whose formulas are typed
pub record IsRefutedBy (c : SymCondition) (refutation : List Refute) : Type 0 where
  pub accepted : IsAccepted itself c refutation
  pub typed : AllTyped itself c.widths c.entries

-- decisions find it refuted, and by this
pub record IsFoundRefuted (c : SymCondition) (refutation : List Refute) : Type 0 where
  pub refuted : IsRefuted itself c
  pub by : IsRefutedBy c refutation

-- the condition has this verdict: it is met by these as its least values, or it is undecided by this cause
abbrev pub IsVerdictOn : SymCondition → Verdict → Type 0
IsVerdictOn c (Sat values) = IsMetBy itself c values
IsVerdictOn c (Undecided cause) = IsUndecidedBy itself c cause

-- what may be said of a condition before a refuted side
abbrev pub MayPrecede : SymCondition → Verdict → Type 0
MayPrecede c (Sat values) = Satisfy values c
MayPrecede c (Undecided cause) = IsLicensed itself c cause

-- with what is explored
module _ (s : SymStart) where
  -- the decisions lead along this route
  abbrev pub Leads : List Decision → SymRoute → Type 0
  Leads ds r = route s.tree ds ≡ Some r

  -- the tests of the injection; each must hold
  abbrev pub injection_tests : List (FormulaTree × Bool)
  injection_tests = map (λ f. (f, true)) s.tests

  -- the condition of the injection alone
  abbrev pub first_condition : SymCondition
  first_condition = condition_of s.most_choices s.unknowns injection_tests

  -- the condition of a route, where it waits or is over
  abbrev pub condition_on : SymRoute → SymCondition
  condition_on r = condition_of s.most_choices (widths_on s r) (tests_on s r)

  -- values of a packet that meets the injection and goes by these decisions to an end
  pub record Takes (v : List ℕ) (ds : List Decision) : Type 0 where
    pub fits : FitWidths s.unknowns v
    pub way : SymRoute
    pub progress : Progress LinearTerm
    pub end' : End
    pub leads : Leads ds way
    pub ended : way.left ≡ over progress end'
    pub holds : Satisfy v (condition_on way)

  -- what may be said of a path: values of a packet that takes it, or a cause that may be given
  abbrev pub MayBe : List Decision → SymCondition → Verdict → Type 0
  MayBe ds c (Sat values) = Takes values ds
  MayBe ds c (Undecided cause) = IsLicensed itself c cause

  -- a path is the one that its decisions lead along
  pub record IsPath (ds : List Decision) (places : List Place) (end' : End) (fields : Fields LinearTerm) (verdict : Verdict) : Type 0 where
    pub way : SymRoute
    pub progress : Progress LinearTerm
    pub leads : Leads ds way
    pub ended : way.left ≡ over progress end'
    pub places_are : places_on way ≡ places
    pub fields_are : fields_of progress.state ≡ fields
    pub verdict_may : MayBe ds (condition_on way) verdict

  -- they end with a decision of an If or of a Constrain
  pub record EndsAtTest (ds : List Decision) : Type 0 where
    pub parent : List Decision
    pub last : Decision
    pub joined : ds ≡ parent ++ last ∷ []
    pub way : SymRoute
    pub leads : Leads parent way
    pub asking : Asking
    pub progress : Progress LinearTerm
    pub test : FormulaTree
    pub held : SymTree
    pub broken : SymTree
    pub waits : way.left ≡ tests asking progress test held broken
    pub truth : Bool
    pub offered : truth_of asking last ≡ Some truth

  -- a refuted side of a test, and what was said before it
  pub record IsPrunedSide (ds : List Decision) (before : Verdict) (refutation : List Refute) : Type 0 where
    pub side : EndsAtTest ds
    pub refuted : IsRefutedBy (with_test (condition_on side.way) side.test side.truth) refutation
    pub precedes : MayPrecede (condition_on side.way) before

  -- the injection is refuted, where nothing was decided; or a side
  abbrev pub IsPruned : List Decision → Option Verdict → List Refute → Type 0
  IsPruned ds None refutation = (ds ≡ []) × IsRefutedBy first_condition refutation
  IsPruned ds (Some before) refutation = IsPrunedSide ds before refutation

  -- the record has its own meaning
  abbrev pub HasMeaning : RecordTree → Type 0
  HasMeaning (path ds places end' fields verdict) = IsPath ds places end' fields verdict
  HasMeaning (pruned ds before refutation) = IsPruned ds before refutation
  HasMeaning (unexplored ds) = IsOpen s.tree ds

  -- the verdict before a refuted side is that of its parent's condition
  abbrev pub IsVerdictBefore : List Decision → Option Verdict → Type 0
  IsVerdictBefore ds None = Unit {0}
  IsVerdictBefore ds (Some before) = (side : EndsAtTest ds) → IsVerdictOn (condition_on side.way) before

  -- decisions find the condition of a refuted side refuted, or that of the injection
  abbrev pub IsRefutedAt : List Decision → Option Verdict → Type 0
  IsRefutedAt ds None = IsRefuted itself first_condition
  IsRefutedAt ds (Some before) = (side : EndsAtTest ds) × IsRefuted itself (with_test (condition_on side.way) side.test side.truth)

  -- the record's verdict is that of its condition
  abbrev pub HasVerdict : RecordTree → Type 0
  HasVerdict (path ds places end' fields verdict) = (way : SymRoute) → Leads ds way → IsVerdictOn (condition_on way) verdict
  HasVerdict (pruned ds before refutation) = IsVerdictBefore ds before × IsRefutedAt ds before
  HasVerdict (unexplored ds) = Unit {0}
