-- Formulas of a condition that stand at picks.
use Rattle.std.specs.Prelude.{ℕ, Bool, List, [], ◌∷◌, Option, Some, None, slice_get, if◌then◌else◌}
use Rattle.std.specs.List.{list_all}
use Rattle.sn_width.specs.declared.ids.SymId.{SymId}
use Rattle.path_formula.specs.View.{view}
use Rattle.path_cond.specs.Conditions.{Condition}
use Rattle.path_cond.specs.Summaries.{is_inside}
use Rattle.path_cond.specs.Choices as any
pub use Rattle.path_cond.specs.Choices.{passes}

-- the condition has a formula of the pick, and it is simple on the symbol
abbrev pub is_simple_pick : SymId → Condition → ℕ → Bool
is_simple_pick = any.is_simple_pick view

-- the condition has a formula of the pick, and it has the truth that it must have at these values
abbrev pub pick_holds : Condition → List ℕ → ℕ → Bool
pick_holds = any.pick_holds view

-- each of the picks is of a formula that is simple on the symbol
abbrev pub are_simple_picks : SymId → Condition → List ℕ → Bool
are_simple_picks = any.are_simple_picks view

-- the number, as the value of the symbol, meets the formulas of the picks
abbrev pub meets_picks : SymId → Condition → List ℕ → ℕ → Bool
meets_picks = any.meets_picks view

-- the condition has a formula of the pick, and it is inside
abbrev pub is_inside_pick : Condition → ℕ → Bool
is_inside_pick cond pick = passes is_inside (slice_get cond.entries pick)

-- each of the picks is of an inside formula
abbrev pub are_inside_picks : Condition → List ℕ → Bool
are_inside_picks cond picks = list_all (is_inside_pick cond) picks

-- the first of the picks that passes the test
abbrev pub first_where : (ℕ → Bool) → List ℕ → Option ℕ
first_where test [] = None
first_where test (pick ∷ picks) = if test pick then Some pick else first_where test picks
