use Rattle.interval_solver.proofs.Deciding.{false_exactly}
use Rattle.interval_solver.proofs.laws.false_exactly_where_a_constant_is_broken.Goals as goal

pub returns : goal.returns
returns c = false_exactly
