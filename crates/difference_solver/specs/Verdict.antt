use Rattle.std.specs.Prelude.{ℕ, ℤ, List}
use Rattle.difference_solver.specs.declared.bound.DiffVerdict.{DiffVerdict}
use Rattle.difference_solver.specs.declared.bound.DiffVerdict.TheVariants.{Values, Cycle}

-- a fact about the integers of an answer that has them
abbrev pub IfValues : DiffVerdict → (List ℤ → Type 0) → Type 0
IfValues (Values values) P = P values.items
IfValues (Cycle bounds) P = Unit {0}

-- a fact about the indices of an answer that is a cycle
abbrev pub IfCycle : DiffVerdict → (List ℕ → Type 0) → Type 0
IfCycle (Values values) P = Unit {0}
IfCycle (Cycle bounds) P = P bounds.items

-- the answer is a cycle
abbrev pub IsCycle : DiffVerdict → Type 0
IsCycle (Values values) = ⊥
IsCycle (Cycle bounds) = Unit {0}
