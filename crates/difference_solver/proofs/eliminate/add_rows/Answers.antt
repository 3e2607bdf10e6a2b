use Rattle.std.proofs.Common.{◌∙◌, arith, sym, subst, ◌+◌}
use Rattle.difference_solver.specs.declared.table.Table.{Table}
use Rattle.difference_solver.specs.Elimination.{AddsRows}
use Rattle.difference_solver.proofs.Steps.{row_limit, rows_more, rows_skip}
use Rattle.difference_solver.proofs.eliminate.add_rows.Goals as goal
use Rattle.difference_solver.proofs.eliminate.add_rows.Goals.{in-Some, in-None}

pub add_row-requires-clause-upper_limit : goal.add_row-requires-clause-upper_limit
add_row-requires-clause-upper_limit c =
    c.requires.limit c.loop-unknown.unknown c.args.through c.in-Some.upper
    (sym (c.loop-unknown.invariant.rest c.loop-unknown.unknown c.args.through (λ p. absurd (omega arith))) ∙ sym c.in-Some.ensures)

pub add_row-requires-clause-row_limit : goal.add_row-requires-clause-row_limit
add_row-requires-clause-row_limit c =
    row_limit _ c.args.through c.loop-unknown.unknown c.args.table.now c.loop-unknown.table c.loop-unknown.invariant (omega arith) c.requires.limit

pub loop-unknown-preserved : goal.loop-unknown-preserved
loop-unknown-preserved c =
    elim c.match-get.branch [
      | in-Some w ↦
          subst (λ (t : Table). AddsRows c.args.through (c.loop-unknown.unknown + 1) c.args.table.now t) (sym w.table-is)
          (rows_more c.args.through c.loop-unknown.unknown c.args.table.now c.loop-unknown.table w.add_row.new.table (omega arith) c.loop-unknown.invariant w.add_row.ensures)
      | in-None w ↦
          subst (λ (t : Table). AddsRows c.args.through (c.loop-unknown.unknown + 1) c.args.table.now t) (sym w.table-is)
          (rows_skip c.args.through c.loop-unknown.unknown c.args.table.now c.loop-unknown.table (omega arith) c.loop-unknown.invariant (sym w.in-None.ensures))
    ]
