use Rattle.path_solver.proofs.Fragment.{has_least_values}
use Rattle.path_solver.proofs.laws.simple_conditions_have_the_least_values.Goals as goal

pub returns : goal.returns
returns c = λ cond decision typed h none. has_least_values c.facts.ensures cond decision typed h none
