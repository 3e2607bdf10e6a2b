use Rattle.net_check.specs.Network.{network}
use Rattle.replay_command.proofs.ComesLemmas.{told_report}
use Rattle.replay_command.proofs.replay.report_of.Goals as goal

pub returns-in-Err-clause-refused : goal.returns-in-Err-clause-refused
returns-in-Err-clause-refused c =
    told_report (network c.args.net.now) c.args.bytes.now c.in-Err.fault c.fault_of_report.result c.in-Err.ensures.reads c.fault_of_report.ensures
