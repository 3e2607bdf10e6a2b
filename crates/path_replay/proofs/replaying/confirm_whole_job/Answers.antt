use Rattle.net_check.specs.Network.{entry, network}
use Rattle.path_replay.proofs.Starting.{first_of}
use Rattle.path_replay.proofs.replaying.confirm_whole_job.Goals as goal

pub confirm_whole_from-requires-clause-explored : goal.confirm_whole_from-requires-clause-explored
confirm_whole_from-requires-clause-explored c = c.in_ok-first.ensures.start c.args.hops

pub confirm_whole_from-requires-clause-first : goal.confirm_whole_from-requires-clause-first
confirm_whole_from-requires-clause-first c =
    first_of (network c.args.net.now) (entry c.args.injection.now) c.args.hops c.in_ok-first.first c.in_ok-first.ensures.begins
