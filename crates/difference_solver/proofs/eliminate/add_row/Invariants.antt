use Rattle.difference_solver.specs.Elimination.{AddsRow}
use Rattle.difference_solver.proofs.eliminate.add_row.Given as goal

abbrev pub invariant-loop-other : goal.invariant-loop-other
invariant-loop-other l = AddsRow l.through l.unknown l.other l.initial.table l.table
