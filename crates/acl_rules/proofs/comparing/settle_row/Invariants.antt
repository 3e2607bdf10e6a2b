use Rattle.acl_rules.proofs.Rows.{RowTo}
use Rattle.acl_rules.proofs.comparing.settle_row.Given as goal

abbrev pub invariant-loop-column : goal.invariant-loop-column
invariant-loop-column l = RowTo l.left l.right l.fn.joints.items l.joints.items l.row l.column
