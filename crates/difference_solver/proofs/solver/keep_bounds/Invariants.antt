use Rattle.std.proofs.Common.{◌≡◌}
use Rattle.difference_solver.specs.Given.{KeepsFirst}
use Rattle.difference_solver.proofs.solver.keep_bounds.Given as goal

abbrev pub invariant-loop-index : goal.invariant-loop-index
invariant-loop-index l = record {
  count : l.table.count ≡ l.initial.table.count;
  keeps : KeepsFirst l.bounds l.index l.table;
}
