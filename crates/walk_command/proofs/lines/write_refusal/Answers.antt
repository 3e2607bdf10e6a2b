use Rattle.walk_command.specs.Lines.{refusal_data}
use Rattle.walk_command.proofs.lines.write_refusal.Goals as goal

pub returns : goal.returns
unfolding refusal_data
returns c =
    let w = c.objects_are_written.ensures in
    w.opened _ _ _ _ c.in_ok-begin_object.ensures
    (w.member _ _ _ _ _ _ _ c.in_ok-key.ensures c.in_ok-count.ensures
    (w.member _ _ _ _ _ _ _ c.in_ok-key-2.ensures c.in_ok-string.ensures
    (w.member _ _ _ _ _ _ _ c.in_ok-key-3.ensures c.in_ok-count-2.ensures (w.closed _ _ c.in_ok-end_object.ensures))))
