use Rattle.path_formula.specs.View.{view}
use Rattle.path_solver.proofs.Verdicts.{one_of_three}
use Rattle.path_solver.proofs.laws.each_condition_is_refuted_undecided_or_met.Goals as goal

pub returns : goal.returns
returns c = one_of_three view
