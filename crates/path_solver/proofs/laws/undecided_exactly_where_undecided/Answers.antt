use Rattle.path_solver.proofs.Verdicts.{undecided_exactly}
use Rattle.path_solver.proofs.laws.undecided_exactly_where_undecided.Goals as goal

pub returns : goal.returns
returns c = λ cond decision cause h. undecided_exactly c.facts.ensures cond decision cause h
