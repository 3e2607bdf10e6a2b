use Rattle.path_solver.specs.Problems.{IsProblem}
use Rattle.path_solver.proofs.solve.solve_by_members.Given as goal

abbrev pub invariant-loop-turn : goal.invariant-loop-turn
invariant-loop-turn l = IsProblem l.cond l.problem
