use Rattle.path_solver.proofs.Bases.{decision_base}
use Rattle.path_solver.proofs.laws.the_values_of_a_decision_are_a_base.Goals as goal

pub returns : goal.returns
returns c = decision_base
