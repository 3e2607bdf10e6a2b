-- The table of a file.
use Rattle.std.specs.Prelude.{ℕ, List, [], map, Option, None, Some, Result, Ok, Err}
use Rattle.sefl_syntax.specs.declared.net.TableKind.{TableKind}
use Rattle.table_lines.specs.declared.fault.TableFault.{TableFault}
use Rattle.table_lines.specs.declared.fault.TableFault.TheVariants.{BadLine}
use Rattle.table_lines.specs.declared.table.Row.{Row}
use Rattle.table_lines.specs.declared.table.Table.{Table}
use Rattle.table_lines.specs.Lines.{lines}
use Rattle.table_lines.specs.Reading.{and_then, read_from}
use Rattle.table_lines.specs.Rows.{State, step, row_of_entry}

-- how many ports there are, and the rows in the order of the file
pub record TableSeen : Type 0 where
  pub ports : ℕ
  pub rows : List Row

abbrev pub seen : Table → TableSeen
seen t = record { ports = t.ports; rows = t.rows.items }

abbrev pub seen_table : Result Table TableFault → Result TableSeen TableFault
seen_table (Ok t) = Ok (seen t)
seen_table (Err fault) = Err fault

-- before the first line
abbrev pub nothing_read : TableKind → State
nothing_read kind = record { kind = kind; ports = None; rows = []; count = 0 }

-- a file without a number of ports, whose lines are all skipped, is bad at line 1
abbrev pub finished : State → Option ℕ → Result TableSeen TableFault
finished s None = Err (BadLine 1)
finished s (Some ports) = Ok (record { ports = ports; rows = map row_of_entry s.rows })

abbrev pub table_of : TableKind → List ℕ → Result TableSeen TableFault
table_of kind bytes = and_then (read_from step 1 (nothing_read kind) (lines bytes)) (λ s. finished s s.ports)
