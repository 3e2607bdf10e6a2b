use Rattle.replay_command.proofs.OnceLemmas.{replays_once}
use Rattle.replay_command.proofs.laws.replays_have_one_outcome.Goals as goal

pub returns : goal.returns
returns c net i bytes a b h k =
    replays_once c.reports_have_their_form.ensures.one c.one_answer_for_a_net.ensures net i bytes a b h k
