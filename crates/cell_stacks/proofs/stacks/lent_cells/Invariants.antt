use Rattle.std.proofs.Common.{◌≡◌, ◌++◌, map}
use Rattle.cell_stacks.specs.Cells.{lent_cell}
use Rattle.cell_stacks.proofs.stacks.lent_cells.Given as goal

abbrev pub invariant-loop-cell : goal.invariant-loop-cell
invariant-loop-cell g l = map lent_cell l.listed.items ++ l.cell-iterator ≡ l.cells
