use Rattle.net_check.specs.Network.{entry, network}
use Rattle.replay_command.proofs.WholeLemmas.{text_for_each}
use Rattle.replay_command.proofs.whole.text_of_read.Goals as goal

pub returns-in-Ok-clause-text : goal.returns-in-Ok-clause-text
returns-in-Ok-clause-text c =
    text_for_each (network c.args.net.now) (entry c.args.injection.now) c.args.report.now c.deref.result.now c.deref.ensures.value c.in-Ok.counts
    c.in-Ok.ensures.confirms c.in-Ok.ensures.packets c.in-Ok.ensures.walks c.text_of_head.result c.text_of_head.ensures.text
