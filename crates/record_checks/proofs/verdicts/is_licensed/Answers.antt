use Rattle.path_cond.specs.Seen.{itself}
use Rattle.refutation_check.specs.Decisions.{IsLicensed}
use Rattle.refutation_check.specs.Seen as any
use Rattle.record_checks.specs.Stops.{trees_of}
use Rattle.record_checks.proofs.Same.{through}
use Rattle.record_checks.proofs.verdicts.is_licensed.Goals as goal

pub returns : goal.returns
returns c =
    let cond = c.args.cond.now in
    let cause = c.args.cause.now in
    through c.lawful.result (IsLicensed cond cause) (any.IsLicensed itself (trees_of cond) cause) ((c.a_condition_is_judged_by_its_trees.ensures cond).licensed cause)
    c.lawful.ensures
