use Rattle.replay_command.proofs.WholeOnce.{wholes_once}
use Rattle.replay_command.proofs.laws.whole_replays_have_one_outcome.Goals as goal

pub returns : goal.returns
returns c net i bytes a b h k = wholes_once c.reports_have_their_form.ensures.one c.one_answer_for_whole_records.ensures net i bytes a b h k
