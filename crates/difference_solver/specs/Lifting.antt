-- Refutations in which no cycle uses some of the bounds that are gathered.
use Rattle.std.specs.Prelude.{◌≡◌, ℕ, ◌-◌, Bool, true, false, List, [], ◌∷◌, map, nat_lt, nat_le, if◌then◌else◌}
use Rattle.difference_solver.specs.declared.choice.Step.{Step}
use Rattle.difference_solver.specs.declared.choice.Step.TheVariants.{Split, Cycle}

-- the index is before the first, or from the limit on
abbrev pub is_apart : ℕ → ℕ → ℕ → Bool
is_apart first limit i = if nat_lt i first then true else nat_le limit i

abbrev pub all_apart : ℕ → ℕ → List ℕ → Bool
all_apart first limit [] = true
all_apart first limit (i ∷ indices) = if is_apart first limit i then all_apart first limit indices else false

-- the step uses no bound from the first on that is before the limit
abbrev pub avoids : ℕ → ℕ → Step → Bool
avoids first limit (Split choice) = true
avoids first limit (Cycle around) = all_apart first limit around.items

abbrev pub all_avoid : ℕ → ℕ → List Step → Bool
all_avoid first limit [] = true
all_avoid first limit (step ∷ steps) = if avoids first limit step then all_avoid first limit steps else false

-- the index of a bound, where this many from the first on are taken away
abbrev pub lowered : ℕ → ℕ → ℕ → ℕ
lowered first width i = if nat_lt i first then i else i - width

-- a step, with indices where this many bounds are taken away
abbrev pub IsLowered : ℕ → ℕ → Step → Step → Type 0
IsLowered first width (Split choice) (Split other) = choice ≡ other
IsLowered first width (Split choice) (Cycle around) = ⊥
IsLowered first width (Cycle around) (Split choice) = ⊥
IsLowered first width (Cycle around) (Cycle after) = after.items ≡ map (lowered first width) around.items
