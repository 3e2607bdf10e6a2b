use Rattle.net_check.specs.Network.{entry, network}
use Rattle.replay_command.specs.Replays.{choices_of}
use Rattle.replay_command.proofs.ComesLemmas.{set_again}
use Rattle.replay_command.proofs.WholeLemmas.{refusal_comes, text_comes}
use Rattle.replay_command.proofs.whole.text_of_report.Goals as goal

pub returns-clause-text : goal.returns-clause-text
returns-clause-text c =
    text_comes (network c.args.net.now) (entry c.args.injection.now) c.args.bytes.now c.in_ok-report.report c.in_ok-report.ensures.report
    (entry c.set_choices.new.self)
    (set_again c.args.injection.now c.set_choices.new.self c.choices_of.result (choices_of c.in_ok-report.report.cases) c.set_choices.ensures c.choices_of.ensures)
    c.text_of_read.result c.text_of_read.ensures.text

pub returns-clause-refused : goal.returns-clause-refused
returns-clause-refused c =
    refusal_comes (network c.args.net.now) (entry c.args.injection.now) c.args.bytes.now c.in_ok-report.report c.in_ok-report.ensures.report
    (entry c.set_choices.new.self)
    (set_again c.args.injection.now c.set_choices.new.self c.choices_of.result (choices_of c.in_ok-report.report.cases) c.set_choices.ensures c.choices_of.ensures)
    c.text_of_read.result c.text_of_read.ensures.refused
