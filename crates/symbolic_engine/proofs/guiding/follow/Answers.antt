use Rattle.net_check.specs.Network.{entry, network}
use Rattle.symbolic_engine.proofs.Explored.{first_of}
use Rattle.symbolic_engine.proofs.guiding.follow.Goals as goal

pub follow_from-requires-clause-explored : goal.follow_from-requires-clause-explored
follow_from-requires-clause-explored c = c.in_ok-first.ensures.start c.args.hops

pub follow_from-requires-clause-first : goal.follow_from-requires-clause-first
follow_from-requires-clause-first c =
    first_of (network c.args.net.now) (entry c.args.injection.now) c.args.hops c.in_ok-first.first c.in_ok-first.ensures.begins
