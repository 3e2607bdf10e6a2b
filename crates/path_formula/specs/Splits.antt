-- Formulas that have cases.
use Rattle.std.specs.Prelude.{◌≡◌, ◌≤◌, ℕ}
use Rattle.path_formula.specs.Atoms.{comparison_kind, membership_kind}
use Rattle.path_formula.specs.Formulas.{FormulaTree, always, compared, belongs, all_of, any_of, opposite, Formulas, no_formulas, formula}
use Rattle.path_formula.specs.declared.atom.AtomKind.{AtomKind}
use Rattle.path_formula.specs.declared.atom.AtomKind.TheVariants.{Constant, Single, Pair, Outside}

-- an atom of this kind, with sides of these widths, is constant, or single or a pair and at most 64 bits wide
abbrev pub AtomCanSplit : AtomKind → ℕ → ℕ → Type 0
AtomCanSplit Constant left right = Unit {0}
AtomCanSplit (Single s) left right = (left ≤ 64) × (right ≡ left)
AtomCanSplit Pair left right = (left ≤ 64) × (right ≡ left)
AtomCanSplit Outside left right = ⊥

abbrev mutual
  -- each atom of the formula is constant, or single or a pair and at most 64 bits wide
  pub CanSplit : FormulaTree → Type 0
  CanSplit (always truth) = Unit {0}
  CanSplit (compared rel left right) = AtomCanSplit (comparison_kind left right) left.width right.width
  CanSplit (belongs term set) = AtomCanSplit (membership_kind term) term.width set.width
  CanSplit (all_of fs) = EachCanSplit fs
  CanSplit (any_of fs) = EachCanSplit fs
  CanSplit (opposite f) = CanSplit f

  -- the same of each of several formulas
  pub EachCanSplit : Formulas → Type 0
  EachCanSplit no_formulas = Unit {0}
  EachCanSplit (formula f fs) = CanSplit f × EachCanSplit fs
