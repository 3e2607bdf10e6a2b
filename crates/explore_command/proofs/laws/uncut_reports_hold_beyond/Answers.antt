use Rattle.exact_records.specs.View.{record_trees}
use Rattle.explore_command.proofs.laws.uncut_reports_hold_beyond.Goals as goal

pub returns : goal.returns
returns c = λ net i hops limit sides ending whole report uncut more least.
    c.uncut_records_go_beyond.ensures net i hops limit (record_trees report.records) report.found.exact uncut more least
