use Rattle.std.proofs.Common.{◌≡◌, ◌-◌, List}
use Rattle.difference_solver.specs.declared.bound.Bound.{Bound}
use Rattle.difference_solver.specs.Elimination.{HasSources, KeepsImplied}
use Rattle.difference_solver.proofs.Steps.{Eliminates}
use Rattle.difference_solver.proofs.eliminate.eliminate_all.Given as goal

abbrev pub invariant-loop-step : goal.invariant-loop-step
invariant-loop-step l = record {
  count : l.table.count ≡ l.initial.table.count;
  eliminates : Eliminates l.initial.table l.table l.count l.step;
  kept : KeepsImplied l.initial.table l.table;
  sources : (bounds : List Bound) → HasSources bounds l.count l.initial.table → HasSources bounds (l.count - l.step) l.table;
}
