use Rattle.record_text.specs.Records.{unexplored_data}
use Rattle.record_text.proofs.records.write_unexplored.Goals as goal

pub returns : goal.returns
unfolding unexplored_data
returns c =
    let w = c.objects_are_written.ensures in
    w.opened _ _ _ _ c.in_ok-begin_object.ensures
    (w.member _ _ _ _ _ _ _ c.in_ok-key.ensures c.in_ok-write_decisions.ensures
    (w.member _ _ _ _ _ _ _ c.in_ok-key-2.ensures c.in_ok-string.ensures
    (w.closed _ _ c.in_ok-end_object.ensures)))
