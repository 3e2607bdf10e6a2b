use Rattle.std.proofs.lemmas.Result.{err_from_is_err_and}
use Rattle.net_check.specs.Network.{entry, network}
use Rattle.replay_command.specs.Replays.{choices_of}
use Rattle.replay_command.proofs.ComesLemmas.{report_refused, report_text, set_again, without_report}
use Rattle.replay_command.proofs.replay.text_of_whole.Goals as goal

pub returns-in_err-report-clause-refused : goal.returns-in_err-report-clause-refused
returns-in_err-report-clause-refused c =
    let p = err_from_is_err_and c.from_residual.result c.from_residual.ensures.1 in
    rw (p.1, p.2) (without_report (network c.args.net.now) (entry c.args.injection.now) c.args.bytes.now c.in_err-report.field-0.0 c.in_err-report.ensures.refused)

pub returns-clause-text : goal.returns-clause-text
returns-clause-text c =
    report_text (network c.args.net.now) (entry c.args.injection.now) c.args.bytes.now c.in_ok-report.report c.in_ok-report.ensures.report
    (entry c.set_choices.new.self)
    (set_again c.args.injection.now c.set_choices.new.self c.choices_of.result (choices_of c.in_ok-report.report.cases) c.set_choices.ensures c.choices_of.ensures)
    c.deref.result.now c.deref.ensures.value c.text_of_counts.result c.text_of_counts.ensures.text

pub returns-clause-refused : goal.returns-clause-refused
returns-clause-refused c =
    report_refused (network c.args.net.now) (entry c.args.injection.now) c.args.bytes.now c.in_ok-report.report c.in_ok-report.ensures.report
    (entry c.set_choices.new.self)
    (set_again c.args.injection.now c.set_choices.new.self c.choices_of.result (choices_of c.in_ok-report.report.cases) c.set_choices.ensures c.choices_of.ensures)
    c.deref.result.now c.deref.ensures.value c.text_of_counts.result c.text_of_counts.ensures.refused
