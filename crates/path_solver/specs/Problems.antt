-- The choices of cases of a condition, as they are gathered.
use Rattle.std.specs.Prelude.{◌≡◌, List}
use Rattle.difference_solver.specs.Choices.{lists_of}
use Rattle.path_cond.specs.Conditions.{Condition}
use Rattle.path_solver.specs.Origins.{AreOrigins, behind_domains, choices_from}
use Rattle.path_solver.specs.declared.problem.Problem.{Problem}
use Rattle.refutation_check.specs.declared.steps.Refute.{Refute}

-- the choices are those that the steps name
abbrev pub AreChoices : Condition → Problem → Type 0
AreChoices cond p = lists_of p.choices.items ≡ choices_from cond p.steps.items

-- the choices are of the domain of each coupled symbol, and of these members of inside formulas
pub record AreGiven (cond : Condition) (members : List Refute) (p : Problem) : Type 0 where
  pub are : AreOrigins cond members
  pub steps_are : p.steps.items ≡ behind_domains cond members
  pub choices_are : AreChoices cond p

-- the choices are of the domain of each coupled symbol, and of some members of inside formulas
abbrev pub IsProblem : Condition → Problem → Type 0
IsProblem cond p = (members : List Refute) × AreGiven cond members p
