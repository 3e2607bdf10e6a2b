use Rattle.std.proofs.Common.{◌≡◌, ◌+◌, get_or, rules, ap}
use Rattle.sefl_meaning.specs.declared.walk.Decision.TheVariants.{Then}
use Rattle.record_checks.proofs.Leading.{shared_more}
use Rattle.record_checks.proofs.trail.shared.Goals as goal

pub loop-step-preserved : goal.loop-step-preserved
loop-step-preserved g c =
    let ds = c.args.decisions.now in
    let k = c.loop-step.count in
    let x = c.step-item.result in
    let same : x.decision ≡ get_or ds k Then = search rules in
    record {
      counted = ap (λ n. n + 1) c.loop-step.invariant.counted;
      shared = shared_more c.args.steps.now ds k c.loop-step.step-index x c.loop-step.invariant.counted c.loop-step-test.true c.step-item.is c.if-count-decisions.false same
          c.loop-step.invariant.shared;
    }
