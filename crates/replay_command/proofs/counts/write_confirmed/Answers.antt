use Rattle.replay_command.specs.Counted.{confirmed_data}
use Rattle.replay_command.proofs.counts.write_confirmed.Goals as goal

pub returns : goal.returns
unfolding confirmed_data
returns c =
    let w = c.objects_are_written.ensures in
    w.opened _ _ _ _ c.in_ok-begin_object.ensures
    (w.member _ _ _ _ _ _ _ c.in_ok-key.ensures c.in_ok-count.ensures
    (w.member _ _ _ _ _ _ _ c.in_ok-key-2.ensures c.in_ok-count-2.ensures
    (w.member _ _ _ _ _ _ _ c.in_ok-key-3.ensures c.in_ok-count-3.ensures
    (w.member _ _ _ _ _ _ _ c.in_ok-key-4.ensures c.in_ok-count-4.ensures
    (w.member _ _ _ _ _ _ _ c.in_ok-key-5.ensures c.in_ok-count-5.ensures
    (w.closed _ _ c.in_ok-end_object.ensures))))))
