use Rattle.std.proofs.Common.{ap, ◌∙◌, map, reverse, rules}
use Rattle.cell_stacks.specs.Cells.{lent_cell}
use Rattle.cell_stacks.proofs.ListingLemmas.{listed_all, map_reverse}
use Rattle.cell_stacks.proofs.stacks.lent_cells.Goals as goal

pub returns : goal.returns
returns g c =
    ap (map lent_cell) c.reverse.ensures.items ∙ map_reverse lent_cell c.loop-cell.listed.items
    ∙ ap reverse (listed_all lent_cell c.loop-cell.listed.items c.loop-cell.cell-iterator c.args.cells.now c.loop-cell.invariant (search rules))
