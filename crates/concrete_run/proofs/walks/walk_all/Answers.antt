use Rattle.net_check.specs.Network.{entry, network}
use Rattle.sefl_meaning.specs.View.{carried_of}
use Rattle.concrete_run.specs.Pending.{walks_of}
use Rattle.concrete_run.proofs.Moving.{walks_at_start}
use Rattle.concrete_run.proofs.Working.{all_answer}
use Rattle.concrete_run.proofs.walks.walk_all.Goals as goal

pub returns : goal.returns
returns c =
    let net = network c.args.net.now in
    let i = entry c.args.injection.now in
    let s = carried_of c.in_ok-state.state in
    all_answer net i c.args.values.now c.args.hops c.args.limit s (walks_of net c.at_start-pending.result) c.gather.result
    c.in_ok-state.ensures (walks_at_start net i c.args.values.now c.args.hops s c.at_start-pending.result c.at_start-pending.ensures) c.gather.ensures
