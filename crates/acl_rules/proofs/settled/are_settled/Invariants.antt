use Rattle.std.proofs.Common.{map}
use Rattle.acl_rules.specs.Comparing.{joint_seen}
use Rattle.acl_rules.proofs.Growing.{RowsTo}
use Rattle.acl_rules.proofs.settled.are_settled.Given as goal

-- the rows so far are settled
abbrev pub invariant-loop-row : goal.invariant-loop-row
invariant-loop-row l = RowsTo l.left l.right (map joint_seen l.joints) l.row
