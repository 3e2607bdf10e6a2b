-- The nodes of tables.
use Rattle.std.specs.Prelude.{ℕ, ◌^◌, ◌<◌, List, map, Option}
use Rattle.std.specs.List.{AllByRecursion}
use Rattle.sefl_syntax.specs.declared.net.Style.{Style}
use Rattle.sefl_syntax.specs.declared.net.TableKind.{TableKind}
use Rattle.sefl_syntax.specs.Trees.{NodeTree}
use Rattle.table_nodes.specs.TableNodes.{IsNode, Row, bits_of, row_guard}

-- the node of a table of the kind, in one of the styles: of some ports, a port for each address, and rows whose addresses fit
abbrev pub IsTableNode : TableKind → NodeTree → Type 0
IsTableNode kind node =
    (ports : ℕ) × (f : ℕ → Option ℕ) × (rows : List Row) × (style : Style)
    × AllByRecursion (λ row. row.0 < 2 ^ bits_of kind) rows × IsNode kind ports f (map (row_guard kind) rows) style node
