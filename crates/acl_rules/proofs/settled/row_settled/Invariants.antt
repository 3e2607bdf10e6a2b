use Rattle.std.proofs.Common.{map}
use Rattle.acl_rules.specs.Comparing.{joint_seen}
use Rattle.acl_rules.proofs.Growing.{SettledTo}
use Rattle.acl_rules.proofs.settled.row_settled.Given as goal

-- the pairs so far are settled
abbrev pub invariant-loop-column : goal.invariant-loop-column
invariant-loop-column l = SettledTo l.left l.right (map joint_seen l.joints) l.row l.column
