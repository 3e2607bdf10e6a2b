-- Steps that refute bounds leave no integers that meet them.
use Rattle.std.proofs.Common.{ℕ, ℤ, List, [], ◌∷◌, ◌++◌, inl, inr}
use Rattle.std.specs.Prelude.{All}
use Rattle.difference_solver.specs.Bound.{Meets}
use Rattle.difference_solver.specs.Cycle.{IsNegativeCycle}
use Rattle.difference_solver.specs.Choices.{Case, MeetsOne, MeetsEach, with_each, cases_at}
use Rattle.difference_solver.specs.Steps.{Refutes}
use Rattle.difference_solver.specs.declared.choice.Step.{Step}
use Rattle.difference_solver.specs.declared.choice.Step.TheVariants.{Split, Cycle}
use Rattle.difference_solver.proofs.Meeting.{one_append_left, one_append_right, one_with, each_at}

-- bounds around a cycle whose sum is below zero are not met together
abbrev pub CycleRefutes : Type 0
CycleRefutes = (bounds : Case) (indices : List ℕ) (v : List ℤ) → IsNegativeCycle bounds indices → All (Meets v) bounds → ⊥

pub refuted_unmet : CycleRefutes → (choices : List (List Case)) (left : List Case) (steps : List Step) (v : List ℤ) → Refutes choices left steps → MeetsEach v choices → MeetsOne v left → ⊥
refuted_unmet law choices [] steps v h each one = one
refuted_unmet law choices (g ∷ left) [] v h each one = h
refuted_unmet law choices (g ∷ left) (Split choice ∷ steps) v h each one =
    let again : MeetsOne v (with_each g (cases_at choices choice) ++ left) → ⊥ =
    λ m. refuted_unmet law choices (with_each g (cases_at choices choice) ++ left) steps v h.1 each m in
    elim one [
      | inl met ↦ again (one_append_left v (with_each g (cases_at choices choice)) left (one_with v g (cases_at choices choice) met (each_at v choices choice h.0 each)))
      | inr other ↦ again (one_append_right v (with_each g (cases_at choices choice)) left other)
    ]
refuted_unmet law choices (g ∷ left) (Cycle around ∷ steps) v h each one =
    elim one [
      | inl met ↦ law g around.items v h.0 met
      | inr other ↦ refuted_unmet law choices left steps v h.1 each other
    ]
