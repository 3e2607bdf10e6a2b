use Rattle.std.proofs.Common.{rules, codes}
use Rattle.grow_command.specs.Summary.{AddsMember, summary_data}
use Rattle.grow_command.proofs.summary.write_summary.Goals as goal

pub returns : goal.returns
unfolding summary_data
returns c =
    let nodes : AddsMember (codes "nodes") c.args.boxes c.write_count-3.new.out c.write_count-4.new.out = search rules in
    c.objects_are_written.ensures.opened _ _ _ _ c.in_ok-begin_object.ensures
    (c.in_ok-write_count.ensures.ends _ _
    (c.in_ok-write_count-2.ensures.ends _ _
    (c.in_ok-write_count-3.ensures.ends _ _
    (nodes.ends _ _
    (c.in_ok-write_count-5.ensures.ends _ _
    (c.in_ok-write_count-6.ensures.ends _ _
    (c.in_ok-write_count-7.ensures.ends _ _
    (c.in_ok-write_count-8.ensures.ends _ _
    (c.in_ok-write_count-9.ensures.ends _ _
    (c.in_ok-write_count-10.ensures.ends _ _
    (c.in_ok-write_count-11.ensures.ends _ _
    (c.objects_are_written.ensures.closed _ _ c.in_ok-end_object.ensures))))))))))))
