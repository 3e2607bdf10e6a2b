use Rattle.net_check.specs.Network.{entry, network}
use Rattle.exact_records.specs.View.{record_trees}
use Rattle.replay_command.proofs.ComesLemmas.{answer_refused, answer_text}
use Rattle.replay_command.proofs.replay.text_of_counts.Goals as goal

pub returns-clause-text : goal.returns-clause-text
returns-clause-text c =
    answer_text (network c.args.net.now) (entry c.args.injection.now) c.args.hops (record_trees c.args.records.now) c.confirm-answer.result c.text_of_answer.result
    c.confirm-answer.ensures.confirms c.text_of_answer.ensures

pub returns-clause-refused : goal.returns-clause-refused
returns-clause-refused c =
    answer_refused (network c.args.net.now) (entry c.args.injection.now) c.args.hops (record_trees c.args.records.now) c.confirm-answer.result c.text_of_answer.result
    c.confirm-answer.ensures.confirms c.text_of_answer.ensures
