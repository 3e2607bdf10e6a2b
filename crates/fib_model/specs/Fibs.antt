-- Forwarding tables.
use Rattle.std.specs.Prelude.{ℕ, ◌<◌, List, map, All, Result, Ok, Err}
use Rattle.sefl_syntax.specs.declared.net.TableKind.TheVariants.{Fib}
use Rattle.table_lines.specs.declared.table.Row as lines
use Rattle.table_lines.specs.declared.fault.TableFault.{TableFault}
use Rattle.table_lines.specs.Tables.{TableSeen, table_of}
use Rattle.fib_model.specs.Prefixes.{Row, IsRow, Distinct}

-- how many ports there are, and the rows in the order of the file, equal ones once
pub record FibSeen : Type 0 where
  pub ports : ℕ
  pub rows : List Row

-- each row is a prefix and a port that there is, and no prefix stands twice
pub record IsFib (ports : ℕ) (rows : List Row) : Type 0 where
  pub prefixes : All IsRow rows
  pub below : All (λ row. row.2 < ports) rows
  pub distinct : Distinct rows

abbrev pub triple : lines.Row → Row
triple row = (row.address, row.length, row.port)

abbrev pub fib_seen : Result TableSeen TableFault → Result FibSeen TableFault
fib_seen (Ok table) = Ok (record { ports = table.ports; rows = map triple table.rows })
fib_seen (Err fault) = Err fault

-- the table of a file, or its first fault
abbrev pub fib_of : List ℕ → Result FibSeen TableFault
fib_of bytes = fib_seen (table_of Fib bytes)
