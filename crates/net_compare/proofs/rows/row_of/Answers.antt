use Rattle.std.proofs.Common.{◌≡◌, Some, slice_get, rules}
use Rattle.net_compare.specs.Rows.{lent}
use Rattle.net_compare.proofs.Entries.{row_next}
use Rattle.net_compare.proofs.rows.row_of.Goals as goal

pub loop-pick-preserved : goal.loop-pick-preserved
loop-pick-preserved c =
    let es = c.args.condition.now.entries in
    let e = c.in-Some.entry in
    let at : slice_get es c.loop-pick.pick ≡ Some (lent e) = search rules in
    row_next es c.loop-pick.pick e c.loop-pick.row.items c.push.new.self.items at c.in_ok-push-in-Some.ensures.items c.loop-pick.invariant
