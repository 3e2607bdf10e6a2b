use Rattle.net_check.specs.Network.{entry, network}
use Rattle.sefl_meaning.specs.Runs.{starting}
use Rattle.term_values.specs.TermValues.{terms}
use Rattle.sefl_meaning.specs.Injected.{unknown_count}
use Rattle.symbolic_engine.proofs.Explored.{first_of, nothing_yet}
use Rattle.symbolic_engine.proofs.exploring.observe.Goals as goal

pub observe_from-requires-clause-explored : goal.observe_from-requires-clause-explored
observe_from-requires-clause-explored g c = c.in_ok-first.ensures.start c.args.hops

pub observe_from-requires-clause-first : goal.observe_from-requires-clause-first
observe_from-requires-clause-first g c =
    first_of (network c.args.net.now) (entry c.args.injection.now) c.args.hops c.in_ok-first.first c.in_ok-first.ensures.begins

pub observe_from-requires-clause-splits : goal.observe_from-requires-clause-splits
observe_from-requires-clause-splits g c =
    let i = entry c.args.injection.now in
    c.accepted_forks_have_copies.ensures (terms (unknown_count i)) (network c.args.net.now) c.args.hops i.own.port i.node (starting c.in_ok-first.first.carried)
    c.keeps_the_rules.ensures.accepted

-- nothing was handed over for want of memory
pub returns-in_err-first-clause-observed : goal.returns-in_err-first-clause-observed
returns-in_err-first-clause-observed g c =
    let seen = g.K.Observer.seen c.args.out.now in
    nothing_yet (network c.args.net.now) (entry c.args.injection.now) c.args.hops c.args.limit seen.stops seen c.args.steps.now c.args.steps.now c.from_residual.result _
    c.from_residual.ensures.1 c.requires.stands
