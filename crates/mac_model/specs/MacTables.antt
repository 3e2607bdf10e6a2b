-- MAC tables.
use Rattle.std.specs.Prelude.{ℕ, ◌≡◌, ◌^◌, ◌<◌, List, [], ◌∷◌, map, All, Result, Ok, Err}
use Rattle.std.specs.List.{AllByRecursion}
use Rattle.sefl_syntax.specs.declared.net.TableKind.TheVariants.{Mac}
use Rattle.table_lines.specs.declared.table.Row as lines
use Rattle.table_lines.specs.declared.fault.TableFault.{TableFault}
use Rattle.table_lines.specs.Tables.{TableSeen, table_of}

-- an address and a port
abbrev pub Row : Type 0
Row = ℕ × ℕ

-- how many ports there are, and the rows in the order of the file, equal ones once
pub record MacSeen : Type 0 where
  pub ports : ℕ
  pub rows : List Row

-- no address stands twice
abbrev pub NoneTwice : List Row → Type 0
NoneTwice [] = Unit {0}
NoneTwice (row ∷ rows) = AllByRecursion (λ other. other.0 ≡ row.0 → ⊥) rows × NoneTwice rows

-- each row is an address of 48 bits and a port that there is, and no address stands twice
pub record IsMac (ports : ℕ) (rows : List Row) : Type 0 where
  pub addresses : All (λ row. row.0 < 2 ^ 48) rows
  pub below : All (λ row. row.1 < ports) rows
  pub apart : NoneTwice rows

abbrev pub pair : lines.Row → Row
pair row = (row.address, row.port)

abbrev pub mac_seen : Result TableSeen TableFault → Result MacSeen TableFault
mac_seen (Ok table) = Ok (record { ports = table.ports; rows = map pair table.rows })
mac_seen (Err fault) = Err fault

-- the table of a file, or its first fault
abbrev pub mac_of : List ℕ → Result MacSeen TableFault
mac_of bytes = mac_seen (table_of Mac bytes)
