use Rattle.std.proofs.Common.{◌≡◌, drop, map}
use Rattle.std.specs.List.{list_any}
use Rattle.acl_rules.specs.Comparing.{has, joint_seen}
use Rattle.acl_rules.proofs.settled.some_has.Given as goal

-- the covers that are left decide
abbrev pub invariant-loop-joint : goal.invariant-loop-joint
invariant-loop-joint l = list_any (has l.pair.left l.pair.right l.part) (map joint_seen l.joints)
    ≡ list_any (has l.pair.left l.pair.right l.part) (map joint_seen (drop l.joint-index l.joints))
