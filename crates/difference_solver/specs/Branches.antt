-- Branches of a search, and the lists of bounds that are left to be looked at.
use Rattle.std.specs.Prelude.{◌≡◌, ℕ, ◌+◌, ◌<◌, ◌≤◌, List, [], ◌∷◌, ◌++◌, length, take, drop, slice_index_or}
use Rattle.difference_solver.specs.Choices.{Case, cases_at, with_each}
use Rattle.difference_solver.specs.Steps.{Refutes}
use Rattle.difference_solver.specs.declared.choice.Step.{Step}
use Rattle.difference_solver.specs.declared.walk.Branch.{Branch}

-- the bounds of the case that is taken
abbrev pub case_of : List (List Case) → Branch → Case
case_of choices b = slice_index_or (cases_at choices b.choice) b.case []

-- the lists of bounds that are left: those of the later cases of each branch, the last branch first
abbrev pub pending : List (List Case) → Case → List Branch → List Case
pending choices gathered [] = []
pending choices gathered (b ∷ branches) =
    with_each (take b.start gathered) (drop (b.case + 1) (cases_at choices b.choice))
    ++ pending choices (take b.start gathered) branches

-- the bounds that are gathered end in those of the case that is taken
pub record IsBranch (choices : List (List Case)) (gathered : Case) (b : Branch) : Type 0 where
  pub start : b.start ≤ length gathered
  pub choice : b.choice < length choices
  pub case : b.case < length (cases_at choices b.choice)
  pub ends : gathered ≡ take b.start gathered ++ case_of choices b

-- the bounds that are gathered are those of the cases that are taken, the last branch first
abbrev pub AreBranches : List (List Case) → Case → List Branch → Type 0
AreBranches choices gathered [] = gathered ≡ []
AreBranches choices gathered (b ∷ branches) =
    IsBranch choices gathered b × AreBranches choices (take b.start gathered) branches

-- what refutes the bounds with each of the cases from this one on refutes, behind the steps of the branch, the bounds alone
abbrev pub RefutesBut : List (List Case) → Case → ℕ → Branch → Type 0
RefutesBut choices bounds case b = (rest : List Step)
    → Refutes choices (with_each bounds (drop case (cases_at choices b.choice))) rest
    → Refutes choices (bounds ∷ []) (b.steps.items ++ rest)

-- the steps of each branch refute the cases before the one that is taken
abbrev pub AreRefuted : List (List Case) → Case → List Branch → Type 0
AreRefuted choices gathered [] = Unit {0}
AreRefuted choices gathered (b ∷ branches) =
    RefutesBut choices (take b.start gathered) b.case b × AreRefuted choices (take b.start gathered) branches
