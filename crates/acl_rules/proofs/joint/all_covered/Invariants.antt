use Rattle.std.proofs.Common.{◌≡◌, drop, map}
use Rattle.std.specs.List.{list_all}
use Rattle.acl_rules.specs.Comparing.{is_covered, joint_seen}
use Rattle.acl_rules.proofs.joint.all_covered.Given as goal

-- the covers that are left decide
abbrev pub invariant-loop-joint : goal.invariant-loop-joint
invariant-loop-joint l = list_all (is_covered l.left l.right) (map joint_seen l.joints)
    ≡ list_all (is_covered l.left l.right) (map joint_seen (drop l.joint-index l.joints))
