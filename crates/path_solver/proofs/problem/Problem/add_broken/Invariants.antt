use Rattle.path_solver.specs.Problems.{IsProblem}
use Rattle.path_solver.proofs.problem.Problem.add_broken.Given as goal

abbrev pub invariant-loop-pick : goal.invariant-loop-pick
invariant-loop-pick l = IsProblem l.cond l.self
