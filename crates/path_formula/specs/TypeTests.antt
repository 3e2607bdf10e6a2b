-- Typed terms and formulas, by tests.
use Rattle.std.specs.Prelude.{ℕ, Bool, true, false, ◌&&◌, ◌==◌, List, [], ◌∷◌, Option, None, Some, slice_get}
use Rattle.lin_term.specs.Terms.{Part, LinearTerm}
use Rattle.path_formula.specs.Formulas.{FormulaTree, always, compared, belongs, all_of, any_of, opposite, Formulas, no_formulas, formula}

-- there is a width, and it is this one
abbrev pub is_width : ℕ → Option ℕ → Bool
is_width width None = false
is_width width (Some found) = found == width

-- each symbol of the parts is one of these, and has this width
abbrev pub are_typed_parts : List ℕ → ℕ → List Part → Bool
are_typed_parts widths width [] = true
are_typed_parts widths width (p ∷ ps) = is_width width (slice_get widths p.0.0) && are_typed_parts widths width ps

-- each symbol of the term is one of these, and has the term's width
abbrev pub is_typed_term : List ℕ → LinearTerm → Bool
is_typed_term widths term = are_typed_parts widths term.width term.parts

abbrev mutual
  -- the sides of each comparison, and term and set of each membership, have one width, which is that of their symbols
  pub is_typed : List ℕ → FormulaTree → Bool
  is_typed widths (always truth) = true
  is_typed widths (compared rel left right) = left.width == right.width && (is_typed_term widths left && is_typed_term widths right)
  is_typed widths (belongs term set) = term.width == set.width && is_typed_term widths term
  is_typed widths (all_of fs) = are_typed widths fs
  is_typed widths (any_of fs) = are_typed widths fs
  is_typed widths (opposite f) = is_typed widths f

  -- each of the formulas is typed
  pub are_typed : List ℕ → Formulas → Bool
  are_typed widths no_formulas = true
  are_typed widths (formula f fs) = is_typed widths f && are_typed widths fs
