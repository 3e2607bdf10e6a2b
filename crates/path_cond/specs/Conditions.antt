-- Path conditions.
use Rattle.std.specs.Prelude.{◌≡◌, ℕ, Bool, true, false, List, [], ◌∷◌, Option, Some, None, unwrap_or, reverse}
use Rattle.std.specs.List.{position_from}
use Rattle.std.specs.Ordering.{nat_cmp}
use Rattle.sn_tree.specs.Pairs.{value_at}
use Rattle.sn_width.specs.declared.ids.SymId.{SymId}
use Rattle.path_formula.specs.View.{view}
use Rattle.path_formula.specs.declared.formula.Formula.{Formula}
use Rattle.path_cond.specs.Seen as any
use Rattle.path_cond.specs.Seen.{ConditionOf}
pub use Rattle.path_cond.specs.Seen.{is_simple_on, is_broken_kind}

-- a formula, and the truth that it must have
abbrev pub Entry : Type 0
Entry = Formula × Bool

-- what a path condition is: the widths of its symbols, and its formulas
abbrev pub Condition : Type 0
Condition = ConditionOf Formula

-- the formula has the truth that it must have at these values
abbrev pub entry_holds : List ℕ → Entry → Bool
entry_holds = any.entry_holds view

-- each formula has the truth that it must have at these values
abbrev pub holds_at : Condition → List ℕ → Bool
holds_at = any.holds_at view

-- the formula is simple on the symbol
abbrev pub is_entry_on : SymId → Entry → Bool
is_entry_on = any.is_entry_on view

-- a formula that is simple on the symbol has the truth that it must have at these values
abbrev pub meets : SymId → List ℕ → Entry → Bool
meets = any.meets view

-- the value of the symbol meets each formula that is simple on the symbol
abbrev pub in_domain : SymId → Condition → ℕ → Bool
in_domain = any.in_domain view

-- the number is a value of the symbol's width, and meets each formula that is simple on the symbol
abbrev pub is_possible : Condition → SymId → ℕ → Bool
is_possible = any.is_possible view

-- the formula is constant, and has not the truth that it must have
abbrev pub is_broken : Entry → Bool
is_broken = any.is_broken view

-- the least pick of a constant formula that has not the truth that it must have
abbrev pub first_broken : Condition → Option ℕ
first_broken = any.first_broken view

-- the picks of the formulas that are simple on the symbol, where the first formula has this pick
abbrev pub picks_from : SymId → ℕ → List Entry → List ℕ
picks_from = any.picks_from view

-- the picks of the formulas that are simple on the symbol
abbrev pub simple_picks : SymId → Condition → List ℕ
simple_picks = any.simple_picks view

-- each formula is typed
abbrev pub AllTyped : List ℕ → List Entry → Type 0
AllTyped = any.AllTyped view

-- the first broken pick, after one more formula
abbrev pub broken_after : Option ℕ → Bool → ℕ → Option ℕ
broken_after (Some first) broken pick = Some first
broken_after None true pick = Some pick
broken_after None false pick = None

-- the picks that stand at a symbol, the newest first
abbrev pub picks_at : SymId → List (ℕ × List ℕ) → List ℕ
picks_at s simple = unwrap_or (value_at nat_cmp s.0 simple) []

-- what is kept beside the formulas is that of the formulas
pub record IsKept (widths : List ℕ) (entries : List Entry) (broken : Option ℕ) (simple : List (ℕ × List ℕ)) : Type 0 where
  pub typed : AllTyped widths entries
  pub broken_is : broken ≡ position_from is_broken 0 entries
  pub simple_is : (s : SymId) → picks_at s simple ≡ reverse (picks_from s 0 entries)
