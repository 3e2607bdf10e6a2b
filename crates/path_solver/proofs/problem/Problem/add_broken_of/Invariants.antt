use Rattle.std.proofs.Common.{length}
use Rattle.path_solver.specs.Problems.{IsProblem}
use Rattle.path_solver.proofs.problem.Problem.add_broken_of.Given as goal

abbrev pub invariant-loop-way : goal.invariant-loop-way
invariant-loop-way l = IsProblem l.cond l.self

abbrev pub decreases-loop-way : goal.decreases-loop-way
decreases-loop-way l = length l.ways.items
