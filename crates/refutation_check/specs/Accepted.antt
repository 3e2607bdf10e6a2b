-- Refutations that are accepted for a condition.
use Rattle.std.specs.Prelude.{◌≡◌, ℕ, List, [], ◌∷◌, ◌++◌}
use Rattle.sn_width.specs.declared.ids.SymId.{SymId}
use Rattle.path_formula.specs.View.{view}
use Rattle.path_cond.specs.Conditions.{Condition}
use Rattle.path_formula.specs.Bounds.{Case}
use Rattle.path_formula.specs.Cases.{with_bounds}
use Rattle.refutation_check.specs.Seen as any
use Rattle.refutation_check.specs.declared.steps.Refute.{Refute}

-- the picks are of formulas that are simple on the symbol, and no value of its width meets them all
abbrev pub IsUnmeetable : Condition → SymId → List ℕ → Type 0
IsUnmeetable = any.IsUnmeetable view

-- the symbol is one of the condition, of at most 64 bits
abbrev pub IsDivisible : Condition → SymId → Type 0
IsDivisible = any.IsDivisible view

-- the condition has this formula of the pick, the way leads to this member of it (the empty way to the formula itself), and
-- the member has these cases with the truth that it must have
abbrev pub IsSplitInto : Condition → ℕ → List ℕ → List Case → Type 0
IsSplitInto = any.IsSplitInto view

-- where these bounds are gathered the step is right, and these cases are left: values that make the condition true and
-- meet the gathered bounds meet those of one of the cases
abbrev pub Leaves : Condition → Case → Refute → List Case → Type 0
Leaves = any.Leaves view

-- the steps, read to their end, refute these alternatives one after another, each given by the bounds that are gathered
-- where it begins: the first step leaves cases of the first alternative, which are refuted before the other alternatives
abbrev pub Refutes : Condition → List Case → List Refute → Type 0
Refutes = any.Refutes view

-- the steps refute the condition, no bounds being gathered at first
abbrev pub IsAccepted : Condition → List Refute → Type 0
IsAccepted = any.IsAccepted view

-- reading the step goes from these alternatives to those
abbrev pub Advances : Condition → List Case → Refute → List Case → Type 0
Advances cond [] step after = ⊥
Advances cond (gathered ∷ alternatives) step after =
    (cases : List Case) × Leaves cond gathered step cases × (after ≡ with_bounds cases gathered ++ alternatives)

-- reading the steps goes from these alternatives to those
abbrev pub Reaches : Condition → List Case → List Refute → List Case → Type 0
Reaches cond before [] after = before ≡ after
Reaches cond before (step ∷ steps) after = (next : List Case) × Advances cond before step next × Reaches cond next steps after
