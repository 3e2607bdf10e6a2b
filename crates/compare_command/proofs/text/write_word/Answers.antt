use Rattle.compare_command.proofs.text.write_word.Goals as goal

pub returns : goal.returns
returns c =
    let written = c.objects_are_written.ensures in
    written.opened _ _ _ _ c.in_ok-begin_object.ensures
    (written.member _ _ _ _ _ _ _ c.in_ok-key.ensures c.in_ok-string.ensures
    (c.in_ok-write_cuts.ensures _ _
    (written.member _ _ _ _ _ _ _ c.in_ok-key-2.ensures c.in_ok-count.ensures (written.closed _ _ c.in_ok-end_object.ensures))))
