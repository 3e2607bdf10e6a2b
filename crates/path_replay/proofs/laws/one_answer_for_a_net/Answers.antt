use Rattle.path_replay.proofs.Starting.{back_for}
use Rattle.path_replay.proofs.laws.one_answer_for_a_net.Goals as goal

pub returns : goal.returns
returns c net i hops records answer h = back_for c.one_answer_for_records.ensures net i hops records answer h
