use denote.Ref.{Bor}
use Rattle.std.proofs.Common.{List, map, refl}
use Rattle.lin_term.specs.Terms.{LinearTerm}
use Rattle.cell_stacks.specs.declared.cell.Cell.{Cell}
use Rattle.cell_stacks.specs.Cells.{lent_cell}
use Rattle.loop_meaning.specs.Visits.{value_list, values_in}
use Rattle.loop_check.proofs.Gathering.{gathered_all, gathered_more}
use Rattle.loop_check.proofs.lists.add_values.Goals as goal

abbrev all : List (Cell (Bor LinearTerm)) → List LinearTerm
all cells = values_in (map lent_cell cells)

abbrev each : Cell (Bor LinearTerm) → List LinearTerm
each cell = value_list (lent_cell cell).value

pub loop-cell-preserved : goal.loop-cell-preserved
loop-cell-preserved c =
    gathered_more all each (λ x xs. refl) c.args.cells.now c.loop-cell.cell-index c.cell-item.result c.loop-cell-test.true c.cell-item.is _ _ _
    c.in_ok-add_value.ensures c.loop-cell.invariant

pub returns : goal.returns
returns c = gathered_all all each (λ x xs. refl) refl c.args.cells.now c.loop-cell.cell-index c.loop-cell-test.false _ _ c.loop-cell.invariant
