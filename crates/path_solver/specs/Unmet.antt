-- Formulas at picks that have not the truth that they must have.
use Rattle.std.specs.Prelude.{ℕ, Bool, not, List, slice_get}
use Rattle.path_cond.specs.Conditions.{Condition, Entry, entry_holds}
use Rattle.path_cond.specs.Picks.{passes}

-- the formula has not the truth that it must have at these values
abbrev pub is_unmet : List ℕ → Entry → Bool
is_unmet values entry = not (entry_holds values entry)

-- the condition has a formula of the pick, and it has not the truth that it must have at these values
abbrev pub is_unmet_at : Condition → List ℕ → ℕ → Bool
is_unmet_at cond values pick = passes (is_unmet values) (slice_get cond.entries pick)
