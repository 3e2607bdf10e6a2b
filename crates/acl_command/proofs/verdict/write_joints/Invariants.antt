use Rattle.std.proofs.Common.{◌≡◌, ◌++◌, map, drop}
use Rattle.run_text.specs.Tokens.{tokens_of, ending}
use Rattle.run_text.specs.Forms.{list}
use Rattle.acl_rules.specs.Comparing.{joint_seen}
use Rattle.acl_command.specs.VerdictTexts.{joint_data}
use Rattle.acl_command.proofs.verdict.write_joints.Given as goal

-- what was written, and what is left, is the whole
abbrev pub invariant-loop-joint : goal.invariant-loop-joint
invariant-loop-joint l =
    l.out ++ ending (map joint_data (map joint_seen (drop l.joint-index l.joints)))
    ≡ l.fn.out ++ tokens_of (list (map joint_data (map joint_seen l.joints)))
