use Rattle.net_check.specs.Network.{network}
use Rattle.path_report.proofs.Round.{gives_back}
use Rattle.path_report.proofs.report.read_report.Goals as goal

pub returns-clause-back : goal.returns-clause-back
returns-clause-back c =
    gives_back c.shaped_lines_are_read.ensures c.reports_have_their_form.ensures.form c.reports_have_their_form.ensures.one (network c.args.net.now) c.args.bytes.now c.read.result c.read.ensures
