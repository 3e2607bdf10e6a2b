use Rattle.explore_command.proofs.HeadlineLemmas.{report_read}
use Rattle.explore_command.proofs.laws.reports_are_read_back.Goals as goal

pub returns : goal.returns
returns c = λ net i hops limit sides ending whole shown report.
    report_read hops limit sides net i ending whole c.lines_join.ensures c.lines_are_read_back.ensures shown report
