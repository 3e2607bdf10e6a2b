-- What holds of every table that a file has.
use Rattle.std.specs.Prelude.{ℕ, ◌≡◌, ◌*◌, ◌^◌, ◌<◌, ◌≤◌, List, [], ◌∷◌, Ok, Some}
use Rattle.std.specs.List.{AllByRecursion}
use Rattle.sefl_syntax.specs.declared.net.TableKind.{TableKind}
use Rattle.sefl_syntax.specs.declared.net.TableKind.TheVariants.{Mac, Fib}
use Rattle.table_lines.specs.declared.table.Row.{Row}
use Rattle.table_lines.specs.Addresses.{key_of, size_of}
use Rattle.table_lines.specs.Tables.{TableSeen, table_of}

-- an address of Ethernet, or a prefix whose bits past the length are 0
abbrev pub IsKey : TableKind → ℕ → ℕ → Type 0
IsKey Mac address length = (length ≡ 48) × (address < 2 ^ 48)
IsKey Fib address length = (length ≤ 32) × (k : ℕ) × (address ≡ k * size_of length) × (address < 2 ^ 32)

-- no address or prefix stands twice
abbrev pub NoneTwice : List Row → Type 0
NoneTwice [] = Unit {0}
NoneTwice (row ∷ rows) = AllByRecursion (λ other. other.address ≡ row.address → other.length ≡ row.length → ⊥) rows × NoneTwice rows

-- what a word of a row says is such a key
abbrev pub WordsHaveKeys : Type 0
WordsHaveKeys = (kind : TableKind) (word : List ℕ) (key : ℕ × ℕ) → key_of kind word ≡ Some key → IsKey kind key.0 key.1

pub record IsTable (kind : TableKind) (table : TableSeen) : Type 0 where
  pub keys : AllByRecursion (λ row. IsKey kind row.address row.length) table.rows
  pub ports : AllByRecursion (λ row. row.port < table.ports) table.rows
  pub apart : NoneTwice table.rows

abbrev pub FilesHaveTables : Type 0
FilesHaveTables = (kind : TableKind) (bytes : List ℕ) (table : TableSeen) → table_of kind bytes ≡ Ok table → IsTable kind table
