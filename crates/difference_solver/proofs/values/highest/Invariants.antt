use Rattle.difference_solver.specs.Values.{IsHighestOf}
use Rattle.difference_solver.proofs.values.highest.Given as goal

abbrev pub invariant-loop-other : goal.invariant-loop-other
invariant-loop-other l = IsHighestOf l.table l.values l.unknown l.other l.most
