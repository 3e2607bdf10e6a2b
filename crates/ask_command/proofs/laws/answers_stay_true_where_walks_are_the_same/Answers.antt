use Rattle.ask_command.proofs.Further.{true_replies}
use Rattle.ask_command.proofs.laws.answers_stay_true_where_walks_are_the_same.Goals as goal

pub returns : goal.returns
returns c = λ hops limit net i asks ending whole answers more same.
    true_replies net i hops more answers.records (λ q outcome h. c.truth_goes_beyond.ensures net i hops more same q answers.records outcome h)
    answers.questions answers.replies answers.right
