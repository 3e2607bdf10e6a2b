use Rattle.net_check.specs.Network.{entry, network}
use Rattle.exact_records.specs.View.{record_trees}
use Rattle.path_replay.proofs.Starting.{confirms_for}
use Rattle.path_replay.proofs.replaying.confirm_from.Goals as goal

pub returns : goal.returns
returns g c =
    confirms_for (network c.args.net.now) (entry c.args.injection.now) c.args.hops g.B.Origin.start c.requires.explored (record_trees c.args.records.now)
    c.confirm_along.result c.confirm_along.ensures.confirms
