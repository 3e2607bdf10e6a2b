-- The table of a file is one of addresses.
use Rattle.std.proofs.Common.{◌≡◌, ◌∙◌, sym, ℕ, ◌^◌, ◌<◌, List, [], ◌∷◌, map}
use Rattle.std.specs.List.{AllByRecursion}
use Rattle.std.proofs.lemmas.List.Elements.{All-from_recursion}
use Rattle.sefl_syntax.specs.declared.net.TableKind.TheVariants.{Mac}
use Rattle.table_lines.specs.declared.table.Row as lines
use Rattle.table_lines.specs.Laws as law
use Rattle.table_lines.specs.Laws.{IsKey, IsTable}
use Rattle.table_lines.specs.Tables.{TableSeen}
use Rattle.mac_model.specs.MacTables.{NoneTwice, IsMac, pair}

addresses : (rows : List lines.Row) → AllByRecursion (λ row. IsKey Mac row.address row.length) rows → AllByRecursion (λ row. row.0 < 2 ^ 48) (map pair rows)
addresses [] keys = tt
addresses (row ∷ rows) keys = (keys.0.1, addresses rows keys.1)

below : (ports : ℕ) (rows : List lines.Row) → AllByRecursion (λ row. row.port < ports) rows → AllByRecursion (λ row. row.1 < ports) (map pair rows)
below ports [] all = tt
below ports (row ∷ rows) all = (all.0, below ports rows all.1)

-- all lengths are the same, so addresses alone differ
others : (row : lines.Row) (rows : List lines.Row) → row.length ≡ 48 → AllByRecursion (λ row. IsKey Mac row.address row.length) rows
    → AllByRecursion (λ other. other.address ≡ row.address → other.length ≡ row.length → ⊥) rows → AllByRecursion (λ other. other.0 ≡ row.address → ⊥) (map pair rows)
others row [] length keys apart = tt
others row (other ∷ rows) length keys apart = ((λ same. apart.0 same (keys.0.0 ∙ sym length)), others row rows length keys.1 apart.1)

none_twice : (rows : List lines.Row) → AllByRecursion (λ row. IsKey Mac row.address row.length) rows → law.NoneTwice rows → NoneTwice (map pair rows)
none_twice [] keys apart = tt
none_twice (row ∷ rows) keys apart = (others row rows keys.0.0 keys.1 apart.0, none_twice rows keys.1 apart.1)

pub mac_is : (table : TableSeen) → IsTable Mac table → IsMac table.ports (map pair table.rows)
mac_is table is = record {
  addresses = All-from_recursion (λ row. row.0 < 2 ^ 48) (map pair table.rows) (addresses table.rows is.keys);
  below = All-from_recursion (λ row. row.1 < table.ports) (map pair table.rows) (below table.ports table.rows is.ports);
  apart = none_twice table.rows is.keys is.apart;
}
