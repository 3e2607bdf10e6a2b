use Rattle.std.proofs.Common.{map}
use Rattle.sefl_syntax.specs.Trees.{allocate, assign, constant}
use Rattle.sefl_syntax.specs.Views.{instr_tree}
use Rattle.table_nodes.specs.Fields.{cell}
use Rattle.click_elements.proofs.Codes.{two_more}
use Rattle.click_elements.proofs.code.add_cell.Goals as goal

pub returns : goal.returns
returns c =
    two_more (map instr_tree c.args.code.now.items) _ _ _ _ (allocate (cell c.args.field)) (assign (cell c.args.field) (constant c.args.number))
    c.in_ok-add.ensures c.in_ok-room.ensures c.in_ok-add-2.ensures c.in_ok-set.ensures
