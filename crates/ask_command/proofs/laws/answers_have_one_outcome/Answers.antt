use Rattle.ask_command.proofs.OneAnswer.{answers_once}
use Rattle.ask_command.proofs.laws.answers_have_one_outcome.Goals as goal

pub returns : goal.returns
returns c = λ hops limit net i asks a b h k.
    answers_once hops limit net i asks (c.explorations_have_one_ending.ensures hops limit net i) (c.right_answers_are_one.ensures net i hops) a b h k
