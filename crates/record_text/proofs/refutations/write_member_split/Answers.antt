use Rattle.record_text.proofs.refutations.write_member_split.Goals as goal

pub returns : goal.returns
returns c =
    let w = c.lists_are_written.ensures in
    w.opened _ _ _ _ c.in_ok-begin_list.ensures
    (w.item _ _ _ _ _ c.in_ok-string.ensures (w.item _ _ _ _ _ c.in_ok-id.ensures (w.item _ _ _ _ _ c.in_ok-write_ids.ensures (w.closed _ _ c.in_ok-end_list.ensures))))
