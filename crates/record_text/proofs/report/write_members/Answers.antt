use Rattle.record_text.specs.Reports.{report_members}
use Rattle.record_text.proofs.report.write_members.Goals as goal

pub returns : goal.returns
unfolding report_members
returns c =
    let w = c.objects_are_written.ensures in
    w.member _ _ _ _ _ _ _ c.in_ok-key.ensures c.in_ok-id.ensures
    (w.member _ _ _ _ _ _ _ c.in_ok-key-2.ensures c.in_ok-id-2.ensures
    (w.member _ _ _ _ _ _ _ c.in_ok-key-3.ensures c.in_ok-write_all_records.ensures
    (w.member _ _ _ _ _ _ _ c.in_ok-key-4.ensures c.in_ok-count.ensures
    (w.member _ _ _ _ _ _ _ c.in_ok-key-5.ensures c.in_ok-write_state.ensures
    (w.member _ _ _ _ _ _ _ c.in_ok-key-6.ensures c.in_ok-count-2.ensures
    (w.closed _ _ c.in_ok-end_object.ensures))))))
