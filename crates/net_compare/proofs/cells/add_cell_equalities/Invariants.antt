use Rattle.net_compare.proofs.EqualCells.{CellsLeft}
use Rattle.net_compare.proofs.cells.add_cell_equalities.Given as goal

-- whatever those add that are left, with the formulas so far is what all add
abbrev pub invariant-loop-at : goal.invariant-loop-at
invariant-loop-at l = CellsLeft l.cells l.others l.at l.fn.formulas.items l.formulas.items
