-- The nodes of MAC tables.
use Rattle.std.specs.Prelude.{ℕ, ◌==◌, List, [], map, find, Option, option_map, IsPermutation}
use Rattle.std.specs.List.Sorted.{IsNonDecreasingBy}
use Rattle.sefl_syntax.specs.declared.net.Style.{Style}
use Rattle.sefl_syntax.specs.declared.net.Style.TheVariants.{Chain, Grouped, Egress}
use Rattle.sefl_syntax.specs.declared.net.TableKind.TheVariants.{Mac}
use Rattle.sefl_syntax.specs.Trees.{NodeTree}
use Rattle.table_nodes.specs.TableNodes as nodes
use Rattle.table_nodes.specs.TableNodes.{IsNode, row_guard}
use Rattle.mac_model.specs.MacTables.{Row, MacSeen}

-- the port of the row of the address
abbrev pub mac_port : List Row → ℕ → Option ℕ
mac_port rows a = option_map (λ row. row.1) (find (λ row. a == row.0) rows)

abbrev pub address_key : Row → ℕ
address_key row = row.0

-- the address of the row, as a range
abbrev pub point : Row → ℕ × ℕ
point row = (row.0, row.0)

-- all bits of an address count
abbrev pub whole : Row → nodes.Row
whole row = (row.0, 48, row.1)

-- the node of the table in a style; in style chain its tests are those of the rows, by ascending address
abbrev pub IsMacNode : MacSeen → Style → NodeTree → Type 0
IsMacNode mac Chain node =
    (ordered : List Row) × IsPermutation mac.rows ordered × IsNonDecreasingBy address_key ordered
    × IsNode Mac mac.ports (mac_port mac.rows) (map (row_guard Mac) (map whole ordered)) Chain node
IsMacNode mac Grouped node = IsNode Mac mac.ports (mac_port mac.rows) [] Grouped node
IsMacNode mac Egress node = IsNode Mac mac.ports (mac_port mac.rows) [] Egress node
