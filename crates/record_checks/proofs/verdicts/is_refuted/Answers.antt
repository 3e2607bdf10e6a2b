use Rattle.refutation_check.specs.Accepted.{IsAccepted}
use Rattle.exact_records.specs.Records.{IsRefutedBy}
use Rattle.record_checks.specs.Stops.{trees_of}
use Rattle.record_checks.proofs.Same.{through}
use Rattle.record_checks.proofs.verdicts.is_refuted.Goals as goal

pub returns : goal.returns
returns c =
    let cond = c.args.cond.now in
    let steps = c.args.refutation.now in
    let judged = c.a_condition_is_judged_by_its_trees.ensures cond in
    through c.check.result (IsAccepted cond steps) (IsRefutedBy (trees_of cond) steps)
    (λ a. record { accepted = (judged.accepted steps).0 a; typed = judged.typed.0 c.formulas_are_typed.ensures }, λ r. (judged.accepted steps).1 r.accepted)
    c.check.ensures.accepted
