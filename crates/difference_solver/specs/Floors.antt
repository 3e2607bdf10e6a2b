-- Bounds from below that choices imply.
use Rattle.std.specs.Prelude.{◌==◌, ℕ, ◌<◌, ℤ, Bool, true, false, List, [], ◌∷◌, Option, Some, None, All, map, length, nat_lt, if◌then◌else◌}
use Rattle.std.specs.Option.{option_and_then}
use Rattle.std.specs.Int.{int_max}
use Rattle.difference_solver.specs.declared.bound.Bound.{Bound}
use Rattle.difference_solver.specs.Bound.{Meets, IsInRange, HasLowerBounds}
use Rattle.difference_solver.specs.Choices.{Case, MeetsEach, AreBelow}
use Rattle.difference_solver.specs.declared.floors.Floor.{Floor}

-- a bound on 0 less the unknown
abbrev pub is_below : ℕ → Bound → Bool
is_below u b = if b.plus == 0 then b.minus == u else false

-- the first number of the bounds on 0 less the unknown
abbrev pub below_of : ℕ → Case → Option ℤ
below_of u [] = None
below_of u (b ∷ case) = if is_below u b then Some b.at_most else below_of u case

-- the greatest of these numbers of the cases, and of one before; none where a case has no such bound
abbrev pub weakest : ℕ → ℤ → List Case → Option ℤ
weakest u most [] = Some most
weakest u most (case ∷ cases) = option_and_then (λ (number : ℤ). weakest u (int_max most number) cases) (below_of u case)

-- 0 less the unknown is at most the number
abbrev pub floor_bound : ℕ → ℤ → Bound
floor_bound u number = record { plus = 0; minus = u; at_most = number }

-- the choice implies the bound: integers that meet one case of each choice meet it
pub record IsFloor (count : ℕ) (choices : List (List Case)) (floor : Floor) : Type 0 where
  pub choice : floor.choice < length choices
  pub in_range : IsInRange count floor.bound
  pub met : (w : List ℤ) → MeetsEach w choices → Meets w floor.bound

abbrev pub bound_of : Floor → Bound
bound_of floor = floor.bound

abbrev pub bounds_of : List Floor → Case
bounds_of floors = map bound_of floors

-- the bounds are implied, and there is one for each unknown where each is bounded from below
pub record AreFloors (count : ℕ) (choices : List (List Case)) (floors : List Floor) : Type 0 where
  pub each : All (IsFloor count choices) floors
  pub below : AreBelow count choices → HasLowerBounds count (bounds_of floors)

-- the indices are before the start
abbrev pub all_before : ℕ → List ℕ → Bool
all_before start [] = true
all_before start (i ∷ indices) = if nat_lt i start then all_before start indices else false
