use Rattle.path_formula.specs.View.{view}
use Rattle.path_solver.proofs.Exact.{licensed}
use Rattle.path_solver.proofs.laws.the_cause_of_an_undecided_condition_may_be_given.Goals as goal

pub returns : goal.returns
returns c = licensed view
