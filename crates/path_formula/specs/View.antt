-- The tree that a `Formula` stands for.
use Rattle.std.specs.Prelude.{List, [], ◌∷◌, map}
use Rattle.path_formula.specs.Formulas.{FormulaTree, always, compared, belongs, all_of, any_of, opposite, Formulas, no_formulas, formula}
use Rattle.path_formula.specs.declared.formula.Formula.{Formula, fold-Formula}
use Rattle.path_formula.specs.declared.formula.Formula.TheOpen.{Formula-F}

-- trees in a row
abbrev pub formulas_of : List FormulaTree → Formulas
formulas_of [] = no_formulas
formulas_of (f ∷ fs) = formula f (formulas_of fs)

-- one level, with each formula inside already seen as its tree
abbrev pub view_step : Formula-F FormulaTree → FormulaTree
view_step (Formula-F.Truth b) = always b
view_step (Formula-F.Compare rel left right) = compared rel left right
view_step (Formula-F.Member value ranges) = belongs value ranges.value
view_step (Formula-F.And parts) = all_of (formulas_of parts.items)
view_step (Formula-F.Or parts) = any_of (formulas_of parts.items)
view_step (Formula-F.Not part) = opposite part.value

abbrev pub view : Formula → FormulaTree
view = fold-Formula FormulaTree view_step

-- the trees of a list of formulas
abbrev pub views : List Formula → Formulas
views fs = formulas_of (map view fs)
