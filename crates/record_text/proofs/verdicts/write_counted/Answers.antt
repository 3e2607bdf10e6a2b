use Rattle.record_text.proofs.verdicts.write_counted.Goals as goal

pub returns : goal.returns
returns c =
    let w = c.objects_are_written.ensures in
    w.opened _ _ _ _ c.in_ok-begin_object.ensures
    (w.member _ _ _ _ _ _ _ c.in_ok-key.ensures c.in_ok-string.ensures
    (w.member _ _ _ _ _ _ _ c.in_ok-key-2.ensures c.in_ok-count.ensures
    (w.closed _ _ c.in_ok-end_object.ensures)))
