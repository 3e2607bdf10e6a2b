use Rattle.std.proofs.Common.{◌≡◌, ◌+◌, ◌≤◌, List, [], ◌∷◌, ◌++◌, length, map, subst, sym, rules}
use Rattle.acl_rules.specs.Comparing.{joint_seen}
use Rattle.acl_rules.specs.Pairs.{IsStep}
use Rattle.acl_rules.specs.declared.joint.JointCover.{JointCover}
use Rattle.acl_rules.proofs.Rows.{RowTo, row_covered, row_ended, row_same}
use Rattle.acl_rules.proofs.comparing.settle_row.Goals as goal
use Rattle.acl_rules.proofs.comparing.settle_row.Goals.{in-Already, in-Covered+in_ok-push-in-Covered}

pub loop-column-preserved : goal.loop-column-preserved
loop-column-preserved c =
    let left = c.args.left.now in
    let right = c.args.right.now in
    let first = c.args.joints.now.items in
    let joints = c.loop-column.joints.items in
    let column = c.loop-column.column in
    let step : IsStep left right (map joint_seen joints) c.args.row column c.in_ok-settle.field-0 = search rules in
    elim c.match-branch-2.branch [
      | in-Already w ↦
          let same : c.match-branch-2.joints.items ≡ joints = search rules in
          subst (λ (js : List JointCover). RowTo left right first js c.args.row (column + 1)) (sym same)
          (row_same left right first joints c.args.row column c.loop-column.invariant (rw w.in-Already.is at step))
      | in-Covered+in_ok-push-in-Covered w ↦
          let more : c.match-branch-2.joints.items ≡ joints ++ w.in-Covered.joint ∷ [] = search rules in
          let here = rw w.in-Covered.is at step in
          row_covered left right first joints c.match-branch-2.joints.items w.in-Covered.joint c.args.row column more c.loop-column.invariant here.0 here.1
    ]

pub returns : goal.returns
returns c =
    let most : length c.args.right.now ≤ c.loop-column.column = search rules in
    row_ended c.args.left.now c.args.right.now c.args.joints.now.items c.loop-column.joints.items c.args.row c.loop-column.column most c.loop-column.invariant
