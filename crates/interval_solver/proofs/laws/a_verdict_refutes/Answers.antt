use Rattle.interval_solver.proofs.Deciding.{refutes}
use Rattle.interval_solver.proofs.laws.a_verdict_refutes.Goals as goal

pub returns : goal.returns
returns c = refutes c.a_constant_formula_has_one_truth.ensures c.a_simple_formula_may_stand_alone.ensures
