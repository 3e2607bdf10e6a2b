use Rattle.path_solver.proofs.MovedLemmas.{least_there}
use Rattle.path_solver.proofs.moved.least_in.Goals as goal

pub returns-in-Some : goal.returns-in-Some
returns-in-Some c = least_there c.least.result c.args.domains.now c.args.symbol c.in-Some.set.now c.in-Some.ensures c.least.ensures.least
