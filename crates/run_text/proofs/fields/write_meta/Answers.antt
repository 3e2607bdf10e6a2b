use Rattle.run_text.specs.Forms.{meta_data}
use Rattle.run_text.proofs.fields.write_meta.Goals as goal

pub returns : goal.returns
unfolding meta_data
returns g c =
    let w = c.lists_are_written.ensures in
    w.opened _ _ _ _ c.in_ok-begin_list.ensures
    (w.item _ _ _ _ _ c.in_ok-write_owner.ensures (w.item _ _ _ _ _ c.in_ok-write_meta_name.ensures (w.item _ _ _ _ _ c.in_ok-write_cells.ensures (w.closed _ _ c.in_ok-end_list.ensures))))
