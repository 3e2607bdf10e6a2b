-- The node that a file's bytes give is one of a table, and sends as the table says.
use Rattle.std.proofs.Common.{ℕ, ◌^◌, ◌<◌, List, [], ◌∷◌, map}
use Rattle.std.specs.List.{AllByRecursion}
use Rattle.std.proofs.lemmas.List.Elements.{recursion_from_All}
use Rattle.std.proofs.lemmas.List.Sorted.{All-permutation}
use Rattle.sefl_syntax.specs.declared.net.Style.{Style}
use Rattle.sefl_syntax.specs.declared.net.Style.TheVariants.{Chain, Grouped, Egress}
use Rattle.sefl_syntax.specs.declared.net.TableKind.{TableKind}
use Rattle.sefl_syntax.specs.declared.net.TableKind.TheVariants.{Mac, Fib}
use Rattle.sefl_syntax.specs.Trees.{NodeTree}
use Rattle.table_nodes.specs.Exits.{exits}
use Rattle.table_nodes.specs.TableNodes.{bits_of}
use Rattle.table_nodes.specs.TableNodes as nodes
use Rattle.mac_model.specs.MacTables.{MacSeen, IsMac, mac_of}
use Rattle.mac_model.specs.MacTables as mac
use Rattle.mac_model.specs.Nodes.{IsMacNode, mac_port, whole}
use Rattle.mac_model.specs.Laws as mac_laws
use Rattle.fib_model.specs.Fibs.{FibSeen, IsFib}
use Rattle.fib_model.specs.Prefixes.{IsRow, fib_port}
use Rattle.fib_model.specs.Prefixes as fib
use Rattle.fib_model.specs.Nodes.{IsFibNode}
use Rattle.fib_model.specs.Laws as fib_laws
use Rattle.table_files.specs.FileNodes.{IsNodeOf}
use Rattle.model_laws.specs.Tables.{IsTableNode}
use Rattle.model_laws.specs.Boxes.{SendsTo}

wholes_fit : (rows : List mac.Row) → AllByRecursion (λ (row : mac.Row). row.0 < 2 ^ 48) rows → AllByRecursion (λ (row : nodes.Row). row.0 < 2 ^ 48) (map whole rows)
wholes_fit [] all = tt
wholes_fit (row ∷ rows) all = (all.0, wholes_fit rows all.1)

mac_table : (table : MacSeen) (style : Style) (node : NodeTree) → IsMac table.ports table.rows → IsMacNode table style node → IsTableNode Mac node
mac_table table Chain node is (ordered, same, up, made) =
    let all = All-permutation (λ (row : mac.Row). row.0 < 2 ^ 48) table.rows ordered same is.addresses in
    (table.ports, mac_port table.rows, map whole ordered, Chain, wholes_fit ordered (recursion_from_All (λ (row : mac.Row). row.0 < 2 ^ 48) ordered all), made)
mac_table table Grouped node is made = (table.ports, mac_port table.rows, [], Grouped, tt, made)
mac_table table Egress node is made = (table.ports, mac_port table.rows, [], Egress, tt, made)

prefixes_fit : (rows : List fib.Row) → AllByRecursion IsRow rows → AllByRecursion (λ (row : fib.Row). row.0 < 2 ^ 32) rows
prefixes_fit [] all = tt
prefixes_fit (row ∷ rows) all = (all.0.3, prefixes_fit rows all.1)

fib_table : (table : FibSeen) (style : Style) (node : NodeTree) → IsFib table.ports table.rows → IsFibNode table style node → IsTableNode Fib node
fib_table table Chain node is (ordered, same, up, made) =
    let all = All-permutation IsRow table.rows ordered same is.prefixes in
    (table.ports, fib_port table.rows, ordered, Chain, prefixes_fit ordered (recursion_from_All IsRow ordered all), made)
fib_table table Grouped node is made = (table.ports, fib_port table.rows, [], Grouped, tt, made)
fib_table table Egress node is made = (table.ports, fib_port table.rows, [], Egress, tt, made)

module _ (macs : mac_laws.FilesHaveMacs) (fibs : fib_laws.FilesHaveFibs) where
  pub is_table : (kind : TableKind) (bytes : List ℕ) (style : Style) (node : NodeTree) → IsNodeOf kind bytes style node → IsTableNode kind node
  is_table Mac bytes style node (table, is, made) = mac_table table style node (macs bytes table is) made
  is_table Fib bytes style node (table, is, made) = fib_table table style node (fibs bytes table is) made

module _ (macs : mac_laws.FilesSend) (fibs : fib_laws.FilesSend) where
  pub sends : (kind : TableKind) (bytes : List ℕ) (style : Style) (node : NodeTree) → IsNodeOf kind bytes style node
      → (a : ℕ) → a < 2 ^ bits_of kind → SendsTo kind bytes a (exits node a)
  sends Mac bytes style node (table, is, made) a less = (table, is, macs bytes table style node is made a less)
  sends Fib bytes style node (table, is, made) a less = (table, is, fibs bytes table style node is made a less)
