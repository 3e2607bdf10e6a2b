-- Guided runs that go on by one decision.
use Rattle.std.specs.Prelude.{◌≡◌, Bool, true, false, List, [], ◌∷◌, ◌++◌, Option, None, Some}
use Rattle.lin_term.specs.Terms.{LinearTerm}
use Rattle.path_formula.specs.Formulas.{FormulaTree}
use Rattle.sefl_meaning.specs.declared.walk.Decision.{Decision}
use Rattle.sefl_meaning.specs.declared.walk.Decision.TheVariants.{Then, Else, Pass, Broken, Copy}
use Rattle.sefl_meaning.specs.Courses.{Asking, Progress}
use Rattle.sefl_meaning.specs.Trees.{tests}
use Rattle.sefl_meaning.specs.Routes.{IsOpen, truth_of}
use Rattle.exact_records.specs.Records.{SymTree}
use Rattle.path_exec.specs.declared.engine.Next.{Next}
use Rattle.path_exec.specs.declared.engine.Offer.{Offer}
use Rattle.path_exec.specs.declared.engine.Offer.TheVariants.{If, Constrain, Fork}
use Rattle.path_exec.specs.Views.{Views}
use Rattle.path_exec.specs.Following.{LeadsTo, location_of, point_of}

-- whether the decision is one of an If or of a Constrain that offers it
abbrev pub is_side : Offer → Decision → Bool
is_side If Then = true
is_side If Else = true
is_side If Pass = false
is_side If Broken = false
is_side If (Copy number) = false
is_side Constrain Then = false
is_side Constrain Else = false
is_side Constrain Pass = true
is_side Constrain Broken = true
is_side Constrain (Copy number) = false
is_side (Fork copies) d = false

module _ {P O N D T : Type 0} (x : Views P O N D T) where
  -- these decisions lead there, or they are not open
  abbrev pub LeadsOn : List Decision → Option (Next O N) → Type 0
  LeadsOn ds (Some next) = LeadsTo x ds next
  LeadsOn ds None = IsOpen x.start.tree ds → ⊥

  -- the decisions that were taken lead there
  abbrev pub IsLedThere : Next O N → Type 0
  IsLedThere next = LeadsTo x (location_of x next).decisions next

  -- a test waits there that offers the decision, and the place is behind it, before the run goes on
  pub record IsSideBehind (next : Next O N) (d : Decision) (place : P) : Type 0 where
    pub asking : Asking
    pub progress : Progress LinearTerm
    pub test : FormulaTree
    pub held : SymTree
    pub broken : SymTree
    pub truth : Bool
    pub waits : (point_of x next).tree ≡ tests asking progress test held broken
    pub offered : truth_of asking d ≡ Some truth
    pub decisions : (x.place_at place).decisions ≡ (location_of x next).decisions ++ d ∷ []
    pub tests_are : (x.place_at place).tests ≡ (location_of x next).tests ++ (test, truth) ∷ []
    pub widths : (x.place_at place).widths ≡ (location_of x next).widths

  -- this is the place, or no test waits there that offers the decision
  abbrev pub SideBehind : Next O N → Decision → Option P → Type 0
  SideBehind next d (Some place) = IsSideBehind next d place
  SideBehind next d None = (asking : Asking) (p : Progress LinearTerm) (test : FormulaTree) (held broken : SymTree) (truth : Bool)
      → (point_of x next).tree ≡ tests asking p test held broken → truth_of asking d ≡ Some truth → ⊥
