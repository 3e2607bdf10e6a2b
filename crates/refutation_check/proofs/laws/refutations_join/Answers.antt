use Rattle.refutation_check.proofs.Stepping.{joined_refutes}
use Rattle.refutation_check.proofs.laws.refutations_join.Goals as goal

pub returns : goal.returns
returns c = λ cond firsts seconds steps more h k. joined_refutes cond steps firsts seconds more h k
