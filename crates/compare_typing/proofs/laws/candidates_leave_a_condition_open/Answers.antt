use Rattle.compare_typing.proofs.Open.{candidates_leave_open}
use Rattle.compare_typing.proofs.laws.candidates_leave_a_condition_open.Goals as goal

pub returns : goal.returns
returns c = candidates_leave_open (record { constant = c.a_constant_formula_has_one_truth.ensures; alone' = c.a_simple_formula_may_stand_alone.ensures })
