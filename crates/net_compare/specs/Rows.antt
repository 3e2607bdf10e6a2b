-- Formulas in a row, as they are lent.
use denote.Ref.{Bor}
use Rattle.std.specs.Prelude.{Bool, List, map}
use Rattle.path_formula.specs.Formulas.{FormulaTree}
use Rattle.path_formula.specs.View.{view}
use Rattle.path_formula.specs.declared.formula.Formula.{Formula}

-- a formula with the truth that it must have
abbrev pub lent_seen : Bor Formula × Bool → FormulaTree × Bool
lent_seen e = (view e.0.now, e.1)

-- the formula itself
abbrev pub lent : Bor Formula × Bool → Formula × Bool
lent e = (e.0.now, e.1)

abbrev pub row_seen : List (Bor Formula × Bool) → List (FormulaTree × Bool)
row_seen row = map lent_seen row
