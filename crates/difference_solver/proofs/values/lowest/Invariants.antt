use Rattle.difference_solver.specs.Values.{IsLowestOf}
use Rattle.difference_solver.proofs.values.lowest.Given as goal

abbrev pub invariant-loop-other : goal.invariant-loop-other
invariant-loop-other l = IsLowestOf l.table l.values l.unknown l.other l.least
