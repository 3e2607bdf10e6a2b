use Rattle.path_cond.specs.Conditions.{holds_at}
use Rattle.path_cond.specs.Seen as any
use Rattle.path_cond.specs.Seen.{itself}
use Rattle.record_checks.specs.Stops.{trees_of}
use Rattle.record_checks.proofs.Same.{same_truth}
use Rattle.record_checks.proofs.verdicts.make_true.Goals as goal

pub returns : goal.returns
returns c =
    let cond = c.args.cond.now in
    let values = c.args.values.now in
    same_truth c.holds.result (holds_at cond values) (any.holds_at itself (trees_of cond) values) c.holds.ensures
    ((c.a_condition_is_judged_by_its_trees.ensures cond).holds values)
