-- How far a search has come.
use Rattle.std.specs.Prelude.{◌≡◌, ◌⊎◌, ℕ, ◌+◌, ◌≤◌, ℤ, pos, List, [], ◌∷◌, Option, Some, None, IfNone, All, length, take, reverse}
use Rattle.std.specs.Global.{Vec}
use Rattle.difference_solver.specs.Bound.{Meets, number, IsInRange}
use Rattle.difference_solver.specs.Choices.{Case, MeetsOne, AreBelow, IsMet, IsUnmet, IsLeast, IsUpTo}
use Rattle.difference_solver.specs.Steps.{Refutes}
use Rattle.difference_solver.specs.Branches.{pending, AreBranches, RefutesBut, AreRefuted}
use Rattle.difference_solver.specs.declared.choice.Step.{Step}
use Rattle.difference_solver.specs.declared.walk.Branch.{Branch}
use Rattle.difference_solver.specs.declared.walk.Walk.{Walk}

-- no integers come before these, where each unknown is bounded from below, but those that meet one of the lists of
-- bounds that are left
pub record IsLeastAllBut (count : ℕ) (choices : List (List Case)) (left : List Case) (v : List ℤ) : Type 0 where
  pub met : IsMet count choices v
  pub others : AreBelow count choices → (w : List ℤ) → IsMet count choices w → IsUpTo v w ⊎ MeetsOne w left

-- what is found where these lists of bounds are left: nothing, and all integers are of one of them; or the least of all others
abbrev pub IsSoFar : ℕ → List (List Case) → List Case → Option (Vec ℤ) → Type 0
IsSoFar count choices left None = (w : List ℤ) → IsMet count choices w → MeetsOne w left
IsSoFar count choices left (Some values) = IsLeastAllBut count choices left values.items

-- integers for the unknowns 0 to count, the first of them 0, that come before all that meet the bounds and one case of each
-- choice, where each unknown is bounded from below
pub record AreFirst (count : ℕ) (choices : List (List Case)) (bounds : Case) (v : List ℤ) : Type 0 where
  pub one_each : length v ≡ count + 1
  pub zero_first : number v 0 ≡ pos 0
  pub before : AreBelow count choices → (w : List ℤ) → IsMet count choices w → All (Meets w) bounds → IsUpTo v w

-- the branches lead to the bounds that are gathered, and refute what comes before them where nothing is found
pub record IsOnWay (count : ℕ) (choices : List (List Case)) (gathered : Case) (branches : List Branch) (best : Option (Vec ℤ)) : Type 0 where
  pub unknowns : count ≤ 64
  pub in_range : All (IsInRange count) gathered
  pub leads : AreBranches choices gathered branches
  pub refuted : IfNone best (AreRefuted choices gathered branches)

-- the bounds that are gathered are to be looked at, and then those that the branches leave
pub record IsAt (count : ℕ) (choices : List (List Case)) (gathered : Case) (branches : List Branch) (best : Option (Vec ℤ)) : Type 0 where
  pub way : IsOnWay count choices gathered branches best
  pub so_far : IsSoFar count choices (gathered ∷ pending choices gathered branches) best

-- the bounds that are gathered are done with, and refuted by the steps where nothing is found
pub record IsPast (count : ℕ) (choices : List (List Case)) (gathered : Case) (branches : List Branch) (best : Option (Vec ℤ)) (steps : List Step) : Type 0 where
  pub way : IsOnWay count choices gathered branches best
  pub refuted : IfNone best (Refutes choices (gathered ∷ []) steps)
  pub so_far : IsSoFar count choices (pending choices gathered branches) best

-- the case of the last branch is done with, and refuted by the branch's steps where nothing is found
pub record IsLeft (count : ℕ) (choices : List (List Case)) (gathered : Case) (b : Branch) (branches : List Branch) (best : Option (Vec ℤ)) : Type 0 where
  pub unknowns : count ≤ 64
  pub in_range : All (IsInRange count) gathered
  pub leads : AreBranches choices gathered (b ∷ branches)
  pub refuted : IfNone best (RefutesBut choices (take b.start gathered) (b.case + 1) b × AreRefuted choices (take b.start gathered) branches)
  pub so_far : IsSoFar count choices (pending choices gathered (b ∷ branches)) best

abbrev pub IsWalkAt : ℕ → List (List Case) → Walk → Type 0
IsWalkAt count choices walk = IsAt count choices walk.gathered.items (reverse walk.branches.items) walk.best

abbrev pub IsWalkPast : ℕ → List (List Case) → Walk → Type 0
IsWalkPast count choices walk =
    IsPast count choices walk.gathered.items (reverse walk.branches.items) walk.best walk.steps.items

-- what is found where nothing is left: the least integers, or none, and the steps refute the choices
abbrev pub IsFound : ℕ → List (List Case) → Option (Vec ℤ) → List Step → Type 0
IsFound count choices None steps = Refutes choices ([] ∷ []) steps × IsUnmet count choices
IsFound count choices (Some values) steps =
    IsMet count choices values.items × (AreBelow count choices → IsLeast count choices values.items)
