use Rattle.acl_rules.proofs.Rows.{rows_on}
use Rattle.acl_rules.proofs.comparing.settle_all.Goals as goal

pub loop-row-preserved : goal.loop-row-preserved
loop-row-preserved c =
    rows_on c.args.left.now c.args.right.now c.loop-row.joints.items c.settle_row.new.joints.items c.loop-row.row c.loop-row.invariant
    (rw c.in_default.is at c.in_ok-values.ensures)
