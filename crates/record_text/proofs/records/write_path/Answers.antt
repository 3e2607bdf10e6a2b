use Rattle.record_text.specs.Records.{path_data}
use Rattle.record_text.proofs.records.write_path.Goals as goal

pub returns : goal.returns
unfolding path_data
returns c =
    let w = c.objects_are_written.ensures in
    w.opened _ _ _ _ c.in_ok-begin_object.ensures
    (w.member _ _ _ _ _ _ _ c.in_ok-key.ensures c.in_ok-write_decisions.ensures
    (w.member _ _ _ _ _ _ _ c.in_ok-key-2.ensures c.in_ok-write_end.ensures
    (w.member _ _ _ _ _ _ _ c.in_ok-key-3.ensures c.in_ok-write_carried.ensures
    (w.member _ _ _ _ _ _ _ c.in_ok-key-4.ensures c.in_ok-string.ensures
    (w.member _ _ _ _ _ _ _ c.in_ok-key-5.ensures c.in_ok-write_places.ensures
    (w.member _ _ _ _ _ _ _ c.in_ok-key-6.ensures c.in_ok-write_verdict.ensures
    (w.closed _ _ c.in_ok-end_object.ensures)))))))
