use Rattle.std.proofs.Common.{◌≡◌, map, take}
use Rattle.table_lines.specs.Rows.{row_of_entry}
use Rattle.table_lines.proofs.table.rows_of.Given as goal

abbrev pub invariant-loop-entry : goal.invariant-loop-entry
invariant-loop-entry l = l.rows.items ≡ map row_of_entry (take l.entry-index l.entries)
