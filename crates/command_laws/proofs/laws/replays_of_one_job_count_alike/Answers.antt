use Rattle.std.proofs.Common.{ap, sym, ◌∙◌}
use Rattle.exact_records.specs.View.{record_trees}
use Rattle.command_edge.specs.Puts.{text}
use Rattle.command_edge.specs.declared.ending.Ending.TheVariants.{Done}
use Rattle.replay_command.specs.Counted.{confirmed_text}
use Rattle.command_laws.proofs.Alike.{count_alike}
use Rattle.command_laws.proofs.laws.replays_of_one_job_count_alike.Goals as goal

pub returns-clause-counts : goal.returns-clause-counts
returns-clause-counts c = λ hops limit net i one other whole line report again.
    count_alike c.alike_records_tell_the_same.ensures net i hops (c.exact_records_are_one.ensures net i hops) limit
    (record_trees report.records) (record_trees again.records) report.found.exact again.found.exact

pub returns-clause-replays : goal.returns-clause-replays
returns-clause-replays c = λ hops limit net i one other whole line a b may report again replay more.
    let counts = count_alike c.alike_records_tell_the_same.ensures net i hops (c.exact_records_are_one.ensures net i hops) limit
    (record_trees report.records) (record_trees again.records) report.found.exact again.found.exact in
    c.replays_confirm_what_explore_wrote.ensures hops limit net i one whole a may report replay
    ∙ (ap (λ n. text Done (confirmed_text n)) counts
    ∙ sym (c.replays_confirm_what_explore_wrote.ensures hops limit net i other line b may again more))
