use Rattle.net_check.specs.Network.{entry, network}
use Rattle.exact_records.specs.View.{record_trees}
use Rattle.path_replay.proofs.replaying.confirm.Goals as goal

pub returns-clause-back : goal.returns-clause-back
returns-clause-back c =
    c.one_answer_for_a_net.ensures (network c.args.net.now) (entry c.args.injection.now) c.args.hops (record_trees c.args.records.now) c.confirm_job.result c.confirm_job.ensures

pub returns-clause-packets : goal.returns-clause-packets
returns-clause-packets c =
    c.confirmed_records_tell_packets.ensures (network c.args.net.now) (entry c.args.injection.now) c.args.hops (record_trees c.args.records.now) c.confirm_job.result c.confirm_job.ensures
