-- Symbols that have a mark.
use Rattle.std.specs.Prelude.{◌≡◌, ℕ, Bool, ◌||◌, List, is_some}
use Rattle.std.specs.Ordering.{nat_cmp}
use Rattle.sn_tree.specs.Pairs.{value_at}
use Rattle.sn_width.specs.declared.ids.SymId.{SymId}
use Rattle.path_formula.specs.declared.atom.Shape.{Shape}
use Rattle.path_formula.specs.declared.atom.Shape.TheVariants.{Number, Symbol, Other}
use Rattle.path_cond.specs.Occurring.{symbol_at}

-- the symbol has a mark
abbrev pub has_mark : {V : Type 0} → List (ℕ × V) → SymId → Bool
has_mark marks s = is_some (value_at nat_cmp s.0 marks)

-- the symbol of a mark
abbrev pub marked_symbol : {V : Type 0} → ℕ × V → SymId
marked_symbol mark = symbol_at mark.0

-- the symbols that pass the test, and no others, have got a mark if they had none
pub record Adds {V : Type 0} (old new : List (ℕ × V)) (test : SymId → Bool) : Type 0 where
  pub marks : (s : SymId) → has_mark new s ≡ (has_mark old s || test s)

-- a term of this form is a constant, or a symbol plus a constant
abbrev pub IsPlain : Shape → Type 0
IsPlain Number = Unit {0}
IsPlain (Symbol s) = Unit {0}
IsPlain Other = ⊥
