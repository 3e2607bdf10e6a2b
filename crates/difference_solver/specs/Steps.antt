-- Refutations, a step before its branches.
use Rattle.std.specs.Prelude.{◌<◌, List, [], ◌∷◌, ◌++◌, length}
use Rattle.difference_solver.specs.Cycle.{IsNegativeCycle}
use Rattle.difference_solver.specs.Choices.{Case, cases_at, with_each}
use Rattle.difference_solver.specs.declared.choice.Step.{Step}
use Rattle.difference_solver.specs.declared.choice.Step.TheVariants.{Split, Cycle}

-- the steps refute each of these lists of bounds, in order, and there are no more of them
abbrev pub Refutes : List (List Case) → List Case → List Step → Type 0
Refutes choices [] [] = Unit {0}
Refutes choices [] (step ∷ steps) = ⊥
Refutes choices (bounds ∷ left) [] = ⊥
Refutes choices (bounds ∷ left) (Split choice ∷ steps) =
    (choice < length choices) × Refutes choices (with_each bounds (cases_at choices choice) ++ left) steps
Refutes choices (bounds ∷ left) (Cycle around ∷ steps) = IsNegativeCycle bounds around.items × Refutes choices left steps
