use Rattle.lin_term.proofs.Values.{value_at-difference}
use Rattle.lin_term.proofs.laws.value_of_a_difference.Goals as goal

pub returns : goal.returns
returns c = value_at-difference
