use Rattle.path_solver.proofs.Verdicts.{sat_exactly}
use Rattle.path_solver.proofs.laws.sat_exactly_where_met.Goals as goal

pub returns : goal.returns
returns c = λ cond decision values h. sat_exactly c.facts.ensures cond decision values h
