use Rattle.std.proofs.Common.{◌≡◌, ◌++◌, map, drop}
use Rattle.cell_stacks.specs.Cells.{lent_cell}
use Rattle.loop_meaning.specs.Visits.{values_in}
use Rattle.loop_check.specs.Lists.{terms_of}
use Rattle.loop_check.proofs.lists.add_values.Given as goal

-- what was added, and what is left, is the whole
abbrev pub invariant-loop-cell : goal.invariant-loop-cell
invariant-loop-cell l = terms_of l.values.items ++ values_in (map lent_cell (drop l.cell-index l.cells)) ≡ terms_of l.fn.values.items ++ values_in (map lent_cell l.cells)
