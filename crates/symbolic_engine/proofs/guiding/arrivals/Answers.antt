use Rattle.net_check.specs.Network.{entry, network}
use Rattle.symbolic_engine.proofs.Explored.{first_of}
use Rattle.symbolic_engine.proofs.guiding.arrivals.Goals as goal

pub arrivals_from-requires-clause-explored : goal.arrivals_from-requires-clause-explored
arrivals_from-requires-clause-explored c = c.in_ok-first.ensures.start c.args.hops

pub arrivals_from-requires-clause-first : goal.arrivals_from-requires-clause-first
arrivals_from-requires-clause-first c =
    first_of (network c.args.net.now) (entry c.args.injection.now) c.args.hops c.in_ok-first.first c.in_ok-first.ensures.begins
