-- The rows of a table, line by line.
use Rattle.std.specs.Prelude.{ℕ, ◌+◌, ◌==◌, ◌&&◌, Bool, nat_eq, nat_lt, if◌then◌else◌, List, [], ◌∷◌, ◌++◌, Option, None, Some, Result, Ok, Err}
use Rattle.std.specs.Map.{lookup}
use Rattle.sefl_syntax.specs.declared.net.TableKind.{TableKind}
use Rattle.sefl_syntax.specs.declared.net.TableKind.TheVariants.{Mac, Fib}
use Rattle.table_lines.specs.declared.fault.TableFault.{TableFault}
use Rattle.table_lines.specs.declared.fault.TableFault.TheVariants.{BadLine, Conflict, Limit}
use Rattle.table_lines.specs.declared.entries.Seen.{Seen}
use Rattle.table_lines.specs.declared.table.Row as row
use Rattle.table_lines.specs.declared.content.Content.{Content}
use Rattle.table_lines.specs.declared.content.Content.TheVariants.{Skipped, Bad, Ports, Row}
use Rattle.table_lines.specs.Contents.{content_of}

-- an address, and how many of its bits count
abbrev pub Key : Type 0
Key = ℕ × ℕ

abbrev pub is_key : Key → Key → Bool
is_key key other = nat_eq key.0 other.0 && nat_eq key.1 other.1

abbrev pub limit_of : TableKind → ℕ
limit_of Mac = 32768
limit_of Fib = 200000

-- the number of ports once its line was read, the first row of each key in the order of the file, with its line, and how many rows there were
pub record State : Type 0 where
  pub kind : TableKind
  pub ports : Option ℕ
  pub rows : List (Key × Seen)
  pub count : ℕ

abbrev pub row_of_entry : Key × Seen → row.Row
row_of_entry entry = record { address = entry.0.0; length = entry.0.1; port = entry.1.port }

-- one row more, with these rows afterwards
abbrev pub counted : State → ℕ → List (Key × Seen) → Result State TableFault
counted s line rows =
    if nat_lt s.count (limit_of s.kind) then Ok (record s { rows = rows; count = s.count + 1 }) else Err (Limit line)

-- by the earlier row of the key, if there is one: with another port it is contradicted, and with the same it is only counted
abbrev pub placed : State → ℕ → Key → ℕ → Option Seen → Result State TableFault
placed s line key port None = counted s line (s.rows ++ (key, record { line = line; port = port }) ∷ [])
placed s line key port (Some seen) = if seen.port == port then counted s line s.rows else Err (Conflict line seen.line)

-- a port is less than the number of ports, which comes before all rows
abbrev pub row_read : State → ℕ → Key → ℕ → Option ℕ → Result State TableFault
row_read s line key port None = Err (BadLine line)
row_read s line key port (Some ports) =
    if nat_lt port ports then placed s line key port (lookup (is_key key) s.rows) else Err (BadLine line)

abbrev pub header_read : State → ℕ → ℕ → Option ℕ → Result State TableFault
header_read s line ports None = Ok (record s { ports = Some ports })
header_read s line ports (Some other) = Err (BadLine line)

abbrev pub said : State → ℕ → Content → Result State TableFault
said s line Skipped = Ok s
said s line Bad = Err (BadLine line)
said s line (Ports ports) = header_read s line ports s.ports
said s line (Row key port) = row_read s line key port s.ports

abbrev pub step : State → ℕ → List ℕ → Result State TableFault
step s line text = said s line (content_of s.kind text)
