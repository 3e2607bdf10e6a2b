use Rattle.acl_rules.proofs.Rows.{RowsSettled}
use Rattle.acl_rules.proofs.comparing.settle_all.Given as goal

abbrev pub invariant-loop-row : goal.invariant-loop-row
invariant-loop-row l = RowsSettled l.left l.right l.joints.items l.row
