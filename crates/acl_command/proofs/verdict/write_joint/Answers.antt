use Rattle.std.proofs.Common.{rules}
use Rattle.run_text.specs.Tokens.{Adds}
use Rattle.acl_command.specs.VerdictTexts.{joint_steps_data}
use Rattle.acl_command.proofs.verdict.write_joint.Goals as goal

pub returns : goal.returns
returns c =
    let written = c.objects_are_written.ensures in
    let joint = c.args.joint.now in
    let steps : Adds (joint_steps_data joint.left joint.steps.items) c.key.new.self c.write_steps.new.out = search rules in
    written.opened _ _ _ _ c.in_ok-begin_object.ensures
    (written.member _ _ _ _ _ _ _ c.in_ok-key.ensures steps
    (written.member _ _ _ _ _ _ _ c.in_ok-key-2.ensures c.in_ok-id.ensures
    (written.member _ _ _ _ _ _ _ c.in_ok-key-3.ensures c.in_ok-write_ranges.ensures
    (written.member _ _ _ _ _ _ _ c.in_ok-key-4.ensures c.in_ok-id-2.ensures (written.closed _ _ c.in_ok-end_object.ensures)))))
