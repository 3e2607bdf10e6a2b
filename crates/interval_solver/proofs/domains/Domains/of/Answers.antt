use Rattle.interval_solver.proofs.Meeting.{domains_step}
use Rattle.interval_solver.proofs.domains.Domains.of.Goals as goal

pub loop-symbol-preserved : goal.loop-symbol-preserved
loop-symbol-preserved c =
    let at = c.loop-symbol in
    domains_step c.args.cond.now at.domains c.in_ok-domains.domains c.in_ok-set.set at.symbol c.in_ok-domains.ensures at.invariant c.in_ok-set.ensures
