use Rattle.path_solver.proofs.Fragment.{fragment_settled}
use Rattle.path_solver.proofs.laws.settled_in_the_fragment.Goals as goal

pub returns : goal.returns
returns c = fragment_settled
