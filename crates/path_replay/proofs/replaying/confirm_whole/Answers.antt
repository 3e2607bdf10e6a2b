use Rattle.net_check.specs.Network.{entry, network}
use Rattle.exact_records.specs.View.{record_trees}
use Rattle.path_replay.proofs.replaying.confirm_whole.Goals as goal

pub returns-clause-packets : goal.returns-clause-packets
returns-clause-packets c =
    c.whole_records_show_walks.ensures.packets (network c.args.net.now) (entry c.args.injection.now) c.args.hops (record_trees c.args.records.now) c.confirm_whole_job.result
    c.confirm_whole_job.ensures

pub returns-clause-walks : goal.returns-clause-walks
returns-clause-walks c =
    c.whole_records_show_walks.ensures.walks (network c.args.net.now) (entry c.args.injection.now) c.args.hops (record_trees c.args.records.now) c.confirm_whole_job.result
    c.confirm_whole_job.ensures
