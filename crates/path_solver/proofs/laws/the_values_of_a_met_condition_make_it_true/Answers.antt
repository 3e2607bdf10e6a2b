use Rattle.path_formula.specs.View.{view}
use Rattle.path_solver.proofs.Exact.{met_true}
use Rattle.path_solver.proofs.laws.the_values_of_a_met_condition_make_it_true.Goals as goal

pub returns : goal.returns
returns c = met_true view
