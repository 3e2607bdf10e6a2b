-- Formulas that follow from others.
use Rattle.std.specs.Prelude.{◌≡◌, ℕ, Bool, true, false, ◌&&◌, ◌||◌, List, [], ◌∷◌}
use Rattle.path_formula.specs.Formulas.{FormulaTree, Formulas, no_formulas, formula, truth_at}
use Rattle.path_formula.specs.Solutions.{agrees}
use Rattle.path_formula.specs.Typed.{AreTyped, IsTyped}

-- it is true wherever the formula has this truth, and typed wherever that is
pub record IsNeeded (f : FormulaTree) (holds : Bool) (g : FormulaTree) : Type 0 where
  pub follows : (values : List ℕ) → agrees holds (truth_at f values) ≡ true → truth_at g values ≡ true
  pub typed : (widths : List ℕ) → IsTyped widths f → IsTyped widths g

-- each of the formulas has this truth
abbrev pub all_agree : Bool → Formulas → List ℕ → Bool
all_agree holds no_formulas values = true
all_agree holds (formula f fs) values = agrees holds (truth_at f values) && all_agree holds fs values

-- one of them has
abbrev pub one_agrees : Bool → Formulas → List ℕ → Bool
one_agrees holds no_formulas values = false
one_agrees holds (formula f fs) values = agrees holds (truth_at f values) || one_agrees holds fs values

-- it is true wherever each of these has this truth, and typed wherever they are
pub record IsNeededOfAll (fs : Formulas) (holds : Bool) (g : FormulaTree) : Type 0 where
  pub follows : (values : List ℕ) → all_agree holds fs values ≡ true → truth_at g values ≡ true
  pub typed : (widths : List ℕ) → AreTyped widths fs → IsTyped widths g

-- it is true wherever one of these has this truth, and typed wherever they are
pub record IsNeededOfOne (fs : Formulas) (holds : Bool) (g : FormulaTree) : Type 0 where
  pub follows : (values : List ℕ) → one_agrees holds fs values ≡ true → truth_at g values ≡ true
  pub typed : (widths : List ℕ) → AreTyped widths fs → IsTyped widths g

-- for each of these one at its place
abbrev pub AreNeeded : Bool → List FormulaTree → List FormulaTree → Type 0
AreNeeded holds [] [] = Unit {0}
AreNeeded holds [] (g ∷ gs) = ⊥
AreNeeded holds (f ∷ fs) [] = ⊥
AreNeeded holds (f ∷ fs) (g ∷ gs) = IsNeeded f holds g × AreNeeded holds fs gs
