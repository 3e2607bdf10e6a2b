use Rattle.std.proofs.Common.{rules}
use Rattle.net_check.specs.Network.{network}
use Rattle.path_report.specs.Printed.{IsPrinted}
use Rattle.path_report.proofs.Round.{printed_reads}
use Rattle.path_report.proofs.report.read.Goals as goal

pub returns-in-Some : goal.returns-in-Some
returns-in-Some c =
    let net = network c.args.net.now in
    let is : IsPrinted net c.args.bytes.now c.in-Some.report = search rules in
    printed_reads c.shaped_lines_are_read.ensures c.reports_have_their_form.ensures.form net c.args.bytes.now c.in-Some.report is
