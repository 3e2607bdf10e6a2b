use Rattle.net_check.specs.Network.{entry, network}
use Rattle.path_replay.proofs.Starting.{all_for}
use Rattle.path_replay.proofs.replaying.confirm_given_from.Goals as goal

pub returns : goal.returns
returns g c =
    all_for g.S.Supply.steps (network c.args.net.now) (entry c.args.injection.now) c.args.hops g.B.Origin.start c.requires.explored
    c.args.supply.now c.confirm_given_along.new.supply c.confirm_given_along.result c.confirm_given_along.ensures
