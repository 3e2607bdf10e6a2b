use Rattle.std.proofs.Common.{◌≤◌}
use Rattle.difference_solver.proofs.labels.renumber.Given as goal

abbrev pub invariant-loop-before : goal.invariant-loop-before
invariant-loop-before l = l.last ≤ l.before
