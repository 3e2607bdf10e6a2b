use Rattle.std.proofs.Common.{map, take}
use Rattle.path_solver.specs.Origins.{whole}
use Rattle.path_solver.specs.Problems.{AreGiven}
use Rattle.path_solver.proofs.problem.Problem.of.Given as goal

abbrev pub invariant-loop-pick : goal.invariant-loop-pick
invariant-loop-pick l = AreGiven l.cond (map whole (take l.pick-index l.pick-items)) l.problem
