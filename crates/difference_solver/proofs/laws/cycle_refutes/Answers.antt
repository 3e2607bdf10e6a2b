use Rattle.difference_solver.proofs.Solutions.{cycle_refutes}
use Rattle.difference_solver.proofs.laws.cycle_refutes.Goals as goal

pub returns : goal.returns
returns c = cycle_refutes
