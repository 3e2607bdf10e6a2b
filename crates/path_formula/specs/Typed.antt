-- Formulas whose terms and sets have one width each, over symbols of these widths.
use Rattle.std.specs.Prelude.{◌≡◌, ℕ, List, [], ◌∷◌, Some, slice_get, slice_index}
use Rattle.sn_width.specs.Width.{FitsWidth}
use Rattle.lin_term.specs.Terms.{Part, LinearTerm}
use Rattle.path_formula.specs.Formulas.{FormulaTree, always, compared, belongs, all_of, any_of, opposite, Formulas, no_formulas, formula}

-- each symbol that has a width has a value of the width; where there is none it is 0
abbrev pub AreValues : List ℕ → List ℕ → Type 0
AreValues widths values = (symbol width : ℕ) → slice_get widths symbol ≡ Some width → FitsWidth width (slice_index values symbol)

-- each symbol of the parts is one of these, and has this width
abbrev pub PartsAreTyped : List ℕ → ℕ → List Part → Type 0
PartsAreTyped widths width [] = Unit {0}
PartsAreTyped widths width (p ∷ ps) = (slice_get widths p.0.0 ≡ Some width) × PartsAreTyped widths width ps

-- each symbol of the term is one of these, and has the term's width
abbrev pub TermIsTyped : List ℕ → LinearTerm → Type 0
TermIsTyped widths term = PartsAreTyped widths term.width term.parts

abbrev mutual
  -- the sides of each comparison, and term and set of each membership, have one width, which is that of their
  -- symbols in this list of the widths of all symbols
  pub IsTyped : List ℕ → FormulaTree → Type 0
  IsTyped widths (always truth) = Unit {0}
  IsTyped widths (compared rel left right) = (left.width ≡ right.width) × TermIsTyped widths left × TermIsTyped widths right
  IsTyped widths (belongs term set) = (term.width ≡ set.width) × TermIsTyped widths term
  IsTyped widths (all_of fs) = AreTyped widths fs
  IsTyped widths (any_of fs) = AreTyped widths fs
  IsTyped widths (opposite f) = IsTyped widths f

  -- each of the formulas is typed
  pub AreTyped : List ℕ → Formulas → Type 0
  AreTyped widths no_formulas = Unit {0}
  AreTyped widths (formula f fs) = IsTyped widths f × AreTyped widths fs
