-- Where a guided run waits for a decision, or is over.
use Rattle.std.specs.Prelude.{◌≡◌, List, reverse, Option, Some, None}
use Rattle.lin_term.specs.Terms.{LinearTerm}
use Rattle.path_formula.specs.View.{view}
use Rattle.path_cond.specs.Conditions.{Condition}
use Rattle.path_cond.specs.Seen.{seen}
use Rattle.sefl_meaning.specs.declared.walk.Decision.{Decision}
use Rattle.sefl_meaning.specs.declared.walk.End.{End}
use Rattle.sefl_meaning.specs.Courses.{Progress}
use Rattle.sefl_meaning.specs.Routes.{IsOpen, places_on}
use Rattle.sefl_meaning.specs.Start.{progress_of}
use Rattle.sefl_meaning.specs.Trees.{over}
use Rattle.sym_state.specs.Symbolic.{Symbolic}
use Rattle.exact_records.specs.Records.{EndsAtTest, Leads, SymCondition, SymRoute, SymStart, SymTree, condition_on, with_test}

-- what a stop is seen as: the state there, and the end where the run is over
pub record Stop : Type 0 where
  pub state : Symbolic
  pub how : Option End

-- the run is over so, or not over
abbrev pub StopsAs : SymTree → Option End → Type 0
StopsAs t (Some end') = (p : Progress LinearTerm) × (t ≡ over p end')
StopsAs t None = (p : Progress LinearTerm) (end' : End) → t ≡ over p end' → ⊥

-- the condition, as the trees of its formulas
abbrev pub trees_of : Condition → SymCondition
trees_of c = seen view c

module _ (s : SymStart) where
  -- these decisions lead to the stop
  pub record LeadsTo (ds : List Decision) (stop : Stop) : Type 0 where
    pub way : SymRoute
    pub leads : Leads s ds way
    pub stops : StopsAs way.left stop.how
    pub carries : (progress_of way.left).state ≡ stop.state.carried
    pub decisions : reverse stop.state.decisions ≡ ds
    pub places : reverse stop.state.places ≡ places_on way
    pub condition : trees_of stop.state.condition ≡ condition_on s way

  -- the decisions lead to this stop, or they are not open
  abbrev pub LeadsOn : List Decision → Option Stop → Type 0
  LeadsOn ds (Some stop) = LeadsTo ds stop
  LeadsOn ds None = IsOpen s.tree ds → ⊥

  -- the decisions end with one of an If or of a Constrain, and this is the condition behind it, before the run goes on
  pub record IsSide (ds : List Decision) (c : Condition) : Type 0 where
    pub side : EndsAtTest s ds
    pub condition : trees_of c ≡ with_test (condition_on s side.way) side.test side.truth

  -- this is the condition there, or the decisions do not end so
  abbrev pub SideOf : List Decision → Option Condition → Type 0
  SideOf ds (Some c) = IsSide ds c
  SideOf ds None = EndsAtTest s ds → ⊥
