use Rattle.explore_command.proofs.HeadlineLemmas.{headline_of}
use Rattle.explore_command.proofs.laws.reports_tell_walks.Goals as goal

pub returns : goal.returns
returns c = λ net i hops limit sides ending whole report.
    headline_of hops limit sides net i ending whole (c.whole_records_have_one_path_a_walk.ensures net i hops)
    (c.uncut_records_go_beyond.ensures net i hops) c.lines_join.ensures c.lines_are_read_back.ensures report
