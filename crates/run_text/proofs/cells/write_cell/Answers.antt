use Rattle.run_text.proofs.cells.write_cell.Goals as goal

pub returns : goal.returns
returns g c =
    let w = c.lists_are_written.ensures in
    w.opened _ _ _ _ c.in_ok-begin_list.ensures (w.item _ _ _ _ _ c.in_ok-write_width.ensures (w.last _ _ _ _ c.in_ok-write_value_of.ensures c.in_ok-end_list.ensures))
