use Rattle.path_solver.proofs.Exact.{unsat_exactly}
use Rattle.path_solver.proofs.laws.unsat_exactly_where_refuted.Goals as goal

pub returns : goal.returns
returns c = λ cond decision typed h. unsat_exactly c.facts.ensures cond decision h
