use Rattle.interval_solver.proofs.Meeting.{before_last}
use Rattle.interval_solver.proofs.laws.one_formula_more_may_be_met.Goals as goal

pub returns : goal.returns
returns c = before_last
