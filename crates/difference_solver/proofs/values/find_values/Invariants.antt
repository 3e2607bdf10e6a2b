use Rattle.std.proofs.Common.{◌≡◌, length}
use Rattle.difference_solver.specs.Values.{AreValues}
use Rattle.difference_solver.proofs.values.find_values.Given as goal

abbrev pub invariant-loop-unknown : goal.invariant-loop-unknown
invariant-loop-unknown l = record {
  len : length l.values.items ≡ l.unknown;
  values : AreValues l.table l.values.items;
}
