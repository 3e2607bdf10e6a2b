use Rattle.difference_solver.specs.Elimination.{AddsRows}
use Rattle.difference_solver.proofs.eliminate.add_rows.Given as goal

abbrev pub invariant-loop-unknown : goal.invariant-loop-unknown
invariant-loop-unknown l = AddsRows l.through l.unknown l.initial.table l.table
