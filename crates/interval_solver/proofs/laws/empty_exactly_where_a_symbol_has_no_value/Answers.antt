use Rattle.interval_solver.proofs.Deciding.{empty_exactly}
use Rattle.interval_solver.proofs.laws.empty_exactly_where_a_symbol_has_no_value.Goals as goal

pub returns : goal.returns
returns c = empty_exactly
