-- Formulas that one symbol decides.
use Rattle.std.specs.Prelude.{◌≡◌, ℕ, Bool, true, false, not, ◌&&◌, ◌||◌, List, [], ◌∷◌, ◌++◌, replicate}
use Rattle.sn_width.specs.declared.ids.SymId.{SymId}
use Rattle.path_formula.specs.Formulas.{FormulaTree, always, compared, belongs, all_of, any_of, opposite, Formulas, no_formulas, formula, truth_at}
use Rattle.path_formula.specs.Atoms.{comparison_kind, membership_kind}
use Rattle.path_formula.specs.declared.atom.AtomKind.{AtomKind}
use Rattle.path_formula.specs.declared.atom.AtomKind.TheVariants.{Constant, Single, Pair, Outside}

-- values that give the symbol this one, and each other 0
abbrev pub alone : SymId → ℕ → List ℕ
alone symbol value = replicate symbol.0 0 ++ value ∷ []

-- the second truth is the first
abbrev pub agrees : Bool → Bool → Bool
agrees true truth = truth
agrees false truth = not truth

-- an atom of this kind, with sides of these widths, is constant, or single on the symbol and of its width
abbrev pub AtomIsOver : SymId → ℕ → AtomKind → ℕ → ℕ → Type 0
AtomIsOver s width Constant left right = Unit {0}
AtomIsOver s width (Single r) left right = (r ≡ s) × (left ≡ width) × (right ≡ width)
AtomIsOver s width Pair left right = ⊥
AtomIsOver s width Outside left right = ⊥

abbrev mutual
  -- each atom of the formula is constant, or single on the symbol and of its width
  pub IsOver : SymId → ℕ → FormulaTree → Type 0
  IsOver s width (always truth) = Unit {0}
  IsOver s width (compared rel left right) = AtomIsOver s width (comparison_kind left right) left.width right.width
  IsOver s width (belongs term set) = AtomIsOver s width (membership_kind term) term.width set.width
  IsOver s width (all_of fs) = AreOver s width fs
  IsOver s width (any_of fs) = AreOver s width fs
  IsOver s width (opposite f) = IsOver s width f

  -- the same of each of several formulas
  pub AreOver : SymId → ℕ → Formulas → Type 0
  AreOver s width no_formulas = Unit {0}
  AreOver s width (formula f fs) = IsOver s width f × AreOver s width fs

-- each of the formulas has this truth
abbrev pub all_agree : Bool → Formulas → List ℕ → Bool
all_agree holds no_formulas values = true
all_agree holds (formula f fs) values = agrees holds (truth_at f values) && all_agree holds fs values

-- one of the formulas has this truth
abbrev pub any_agrees : Bool → Formulas → List ℕ → Bool
any_agrees holds no_formulas values = false
any_agrees holds (formula f fs) values = agrees holds (truth_at f values) || any_agrees holds fs values
