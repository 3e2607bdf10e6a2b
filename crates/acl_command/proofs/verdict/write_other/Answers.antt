use Rattle.acl_command.proofs.verdict.write_other.Goals as goal

pub returns : goal.returns
returns c =
    let written = c.objects_are_written.ensures in
    written.opened _ _ _ _ c.in_ok-begin_object.ensures
    (written.member _ _ _ _ _ _ _ c.in_ok-key.ensures c.in_ok-string.ensures
    (written.member _ _ _ _ _ _ _ c.in_ok-key-2.ensures c.in_ok-write_side.ensures
    (written.member _ _ _ _ _ _ _ c.in_ok-key-3.ensures c.in_ok-write_side-2.ensures
    (written.member _ _ _ _ _ _ _ c.in_ok-key-4.ensures c.in_ok-count.ensures
    (written.member _ _ _ _ _ _ _ c.in_ok-key-5.ensures c.in_ok-write_packet.ensures (written.closed _ _ c.in_ok-end_object.ensures))))))
