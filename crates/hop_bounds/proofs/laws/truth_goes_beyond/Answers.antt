use Rattle.hop_bounds.proofs.Answers.{true_further}
use Rattle.hop_bounds.proofs.laws.truth_goes_beyond.Goals as goal

pub returns : goal.returns
returns c = λ net i hops more same q rs outcome is. true_further net i hops more same q rs outcome is
