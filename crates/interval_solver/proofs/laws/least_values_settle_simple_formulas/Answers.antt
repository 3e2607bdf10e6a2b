use Rattle.interval_solver.proofs.Deciding.{least_settle}
use Rattle.interval_solver.proofs.laws.least_values_settle_simple_formulas.Goals as goal

pub returns : goal.returns
returns c = least_settle c.a_constant_formula_has_one_truth.ensures c.a_simple_formula_may_stand_alone.ensures
