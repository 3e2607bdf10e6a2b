use Rattle.lin_term.proofs.Values.{value_at-sum}
use Rattle.lin_term.proofs.laws.value_of_a_sum.Goals as goal

pub returns : goal.returns
returns c = value_at-sum
