-- What a search finds.
use Rattle.std.specs.Prelude.{ℤ, List, Option, Some, None}
use Rattle.std.specs.Global.{Vec}
use Rattle.difference_solver.specs.declared.choice.Step.{Step}
use Rattle.difference_solver.specs.declared.choice.Outcome.{Outcome}
use Rattle.difference_solver.specs.declared.choice.Outcome.TheVariants.{Least, Refuted}

-- a fact about the integers, where there are some
abbrev pub IfLeast : Outcome → (List ℤ → Type 0) → Type 0
IfLeast (Least values) P = P values.items
IfLeast (Refuted steps) P = Unit {0}

-- a fact about the steps, where there are some
abbrev pub IfRefuted : Outcome → (List Step → Type 0) → Type 0
IfRefuted (Least values) P = Unit {0}
IfRefuted (Refuted steps) P = P steps.items

abbrev pub IsRefuted : Outcome → Type 0
IsRefuted (Least values) = ⊥
IsRefuted (Refuted steps) = Unit {0}

-- the integers, where there are some, and else the steps
abbrev pub outcome_of : Option (Vec ℤ) → Vec Step → Outcome
outcome_of None steps = Refuted steps
outcome_of (Some values) steps = Least values
