use Rattle.net_check.specs.Network.{network}
use Rattle.replay_command.proofs.ComesLemmas.{again_of_job, again_refused, again_text}
use Rattle.replay_command.proofs.replay.text_of_report.Goals as goal

pub text_of_whole-requires : goal.text_of_whole-requires
text_of_whole-requires c = again_of_job (network c.args.net.now) c.args.injection.now c.text_of_printed.new.injection c.text_of_printed.ensures.kept c.requires.job

pub returns-in-None-clause-text : goal.returns-in-None-clause-text
returns-in-None-clause-text c =
    again_text (network c.args.net.now) c.args.injection.now c.text_of_printed.new.injection c.text_of_printed.ensures.kept c.args.bytes.now
    c.text_of_whole.result c.text_of_whole.ensures.text

pub returns-in-None-clause-refused : goal.returns-in-None-clause-refused
returns-in-None-clause-refused c =
    again_refused (network c.args.net.now) c.args.injection.now c.text_of_printed.new.injection c.text_of_printed.ensures.kept c.args.bytes.now
    c.text_of_whole.result c.text_of_whole.ensures.refused
