use Rattle.std.proofs.Common.{◌≡◌, map, take}
use Rattle.cell_stacks.specs.Cells.{lent_cell}
use Rattle.sym_state.proofs.fields.cells_copied.Given as goal

abbrev pub invariant-loop-cell : goal.invariant-loop-cell
invariant-loop-cell l = l.list.items ≡ map lent_cell (take l.cell-index l.cells)
