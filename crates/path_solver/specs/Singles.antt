-- Choices of one case each, and their bounds together.
use Rattle.std.specs.Prelude.{◌↔◌, ℕ, ℤ, List, All}
use Rattle.difference_solver.specs.Bound.{Meets, IsInRange}
use Rattle.difference_solver.specs.Choices.{AreInRange, Case, MeetsEach}
use Rattle.path_cond.specs.Conditions.{Condition}
use Rattle.path_solver.specs.Origins.{choices_from}
use Rattle.path_solver.specs.declared.singles.Singles.{Singles}
use Rattle.refutation_check.specs.declared.steps.Refute.{Refute}

-- the integers that meet one case of each choice are those that meet all bounds, which are as small as those of the choices
pub record AreJoined (choices : List (List Case)) (bounds : Case) : Type 0 where
  pub meet : (v : List ℤ) → MeetsEach v choices ↔ All (Meets v) bounds
  pub in_range : (count : ℕ) → AreInRange count choices → All (IsInRange count) bounds

-- the bounds are those of the choices of these origins
abbrev pub AreSinglesOf : Condition → List Refute → Singles → Type 0
AreSinglesOf cond origins s = AreJoined (choices_from cond origins) s.bounds.items
