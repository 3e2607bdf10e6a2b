use Rattle.run_text.proofs.terms.write_part.Goals as goal

pub returns : goal.returns
returns c =
    let w = c.lists_are_written.ensures in
    w.opened _ _ _ _ c.in_ok-begin_list.ensures
    (w.item _ _ _ _ _ c.in_ok-count.ensures (w.item _ _ _ _ _ c.in_ok-write_value.ensures (w.closed _ _ c.in_ok-end_list.ensures)))
