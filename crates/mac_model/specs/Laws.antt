-- Where the node of a file's table sends an address.
use Rattle.std.specs.Prelude.{ℕ, ◌≡◌, ◌^◌, ◌<◌, List, Ok}
use Rattle.sefl_syntax.specs.declared.net.Style.{Style}
use Rattle.sefl_syntax.specs.Trees.{NodeTree}
use Rattle.table_nodes.specs.Exits.{exits}
use Rattle.table_nodes.specs.TableNodes.{port_or, ports_from}
use Rattle.mac_model.specs.MacTables.{MacSeen, IsMac, mac_of}
use Rattle.mac_model.specs.Nodes.{IsMacNode, mac_port}

-- in each style to the port of its row, or to all ports where no row has it
abbrev pub FilesSend : Type 0
FilesSend =
    (bytes : List ℕ) (mac : MacSeen) (style : Style) (node : NodeTree) → mac_of bytes ≡ Ok mac → IsMacNode mac style node
    → (a : ℕ) → a < 2 ^ 48 → exits node a ≡ port_or (ports_from 0 mac.ports) (mac_port mac.rows a)

-- the table of a file is one of addresses
abbrev pub FilesHaveMacs : Type 0
FilesHaveMacs = (bytes : List ℕ) (mac : MacSeen) → mac_of bytes ≡ Ok mac → IsMac mac.ports mac.rows
