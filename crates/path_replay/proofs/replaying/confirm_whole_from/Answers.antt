use Rattle.net_check.specs.Network.{entry, network}
use Rattle.exact_records.specs.View.{record_trees}
use Rattle.path_replay.proofs.Starting.{whole_for}
use Rattle.path_replay.proofs.replaying.confirm_whole_from.Goals as goal

pub returns : goal.returns
returns g c =
    whole_for (network c.args.net.now) (entry c.args.injection.now) c.args.hops g.B.Origin.start c.requires.explored (record_trees c.args.records.now)
    c.confirm_whole_along.result c.confirm_whole_along.ensures
