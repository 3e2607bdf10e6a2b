-- Formulas that are added to others.
use Rattle.std.specs.Prelude.{◌≡◌, ◌⊎◌, Bool, List, [], ◌∷◌, ◌++◌, map}
use Rattle.path_formula.specs.Formulas.{FormulaTree}
use Rattle.path_formula.specs.View.{view}
use Rattle.path_formula.specs.declared.formula.Formula.{Formula}
use Rattle.sefl_meaning.specs.Order.{Has}
use Rattle.compare_meaning.specs.Facing.{must_be}

-- a formula as it must be, unless it is had
abbrev pub AddsMissing : List (FormulaTree × Bool) → FormulaTree × Bool → List FormulaTree → List FormulaTree → Type 0
AddsMissing had e before after = (Has had e × (after ≡ before)) ⊎ ((Has had e → ⊥) × (after ≡ before ++ must_be e ∷ []))

-- formulas that are these
abbrev pub Adds : (List FormulaTree → Type 0) → List Formula → List Formula → Type 0
Adds Are before after = (added : List FormulaTree) × Are added × (map view after ≡ map view before ++ added)
