-- Bounds between symbols that pass a test.
use Rattle.std.specs.Prelude.{◌≡◌, ◌≤ℤ◌, ◌^◌, neg_ℤ, pos, Bool, true, List, [], ◌∷◌, Option, Some, None}
use Rattle.sn_width.specs.declared.ids.SymId.{SymId}
use Rattle.path_formula.specs.Bounds.{Case}
use Rattle.path_formula.specs.declared.sym_bound.SymBound.{SymBound}

-- the number zero, or a symbol that passes the test
abbrev pub Passes : (SymId → Bool) → Option SymId → Type 0
Passes test None = Unit {0}
Passes test (Some s) = test s ≡ true

-- not the number zero on both sides
abbrev pub HasSymbol : Option SymId → Option SymId → Type 0
HasSymbol (Some s) minus = Unit {0}
HasSymbol None (Some s) = Unit {0}
HasSymbol None None = ⊥

-- the bound is one of symbols that pass the test, and within the limits of a solver of bounds
pub record IsBetween (test : SymId → Bool) (b : SymBound) : Type 0 where
  pub plus : Passes test b.plus
  pub minus : Passes test b.minus
  pub some : HasSymbol b.plus b.minus
  pub at_least : neg_ℤ (pos (2 ^ 66)) ≤ℤ b.at_most
  pub at_most : b.at_most ≤ℤ pos (2 ^ 66)

abbrev pub AreBetween : (SymId → Bool) → Case → Type 0
AreBetween test [] = Unit {0}
AreBetween test (b ∷ case) = IsBetween test b × AreBetween test case

abbrev pub EachAreBetween : (SymId → Bool) → List Case → Type 0
EachAreBetween test [] = Unit {0}
EachAreBetween test (case ∷ cases) = AreBetween test case × EachAreBetween test cases
