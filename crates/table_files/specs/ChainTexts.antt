-- The text of a table's node in style chain, by its rows.
use Rattle.std.specs.Prelude.{ℕ, ◌==◌, if◌then◌else◌, List, [], ◌∷◌, ◌++◌, map, codes, decimal}
use Rattle.sefl_syntax.specs.declared.net.Side.TheVariants.{Inward}
use Rattle.sefl_syntax.specs.declared.net.TableKind.{TableKind}
use Rattle.sefl_syntax.specs.declared.net.TableKind.TheVariants.{Mac, Fib}
use Rattle.sefl_syntax.specs.CodeText.{fork_text}
use Rattle.sefl_syntax.specs.NetText.{node_heading}
use Rattle.sefl_syntax.specs.NetWords.{side_text}
use Rattle.sefl_syntax.specs.TermText.{cond_text}
use Rattle.sefl_syntax.specs.Trees.{NodeTree}
use Rattle.table_nodes.specs.TableNodes.{Row, guarded, in_code, last_of, node_with, ports_from, row_guard}

-- the node whose tests are those of the rows, in this order
abbrev pub chain_of : TableKind → ℕ → List Row → NodeTree
chain_of kind ports rows = node_with ports (in_code (guarded (map (row_guard kind) rows) (last_of kind ports)) ∷ [])

-- the lines before those of the rows
abbrev pub heading : List ℕ → ℕ → List ℕ
heading name ports = node_heading name 1 ports ++ (codes "  " ++ side_text Inward ++ codes " " ++ decimal 0 ++ codes " {\n")

-- what follows the test of a row up to its forward
unfoldable pub forward_text : ℕ → List ℕ
forward_text port = codes " {\n      forward " ++ decimal port ++ codes ";\n"

-- the lines that end a row
unfoldable pub row_end : List ℕ
row_end = codes "    } else {\n    }\n"

-- the lines of a row
abbrev pub row_text : TableKind → Row → List ℕ
row_text kind row = codes "    if " ++ cond_text (row_guard kind row).0 ++ forward_text row.2 ++ row_end

-- a port of a fork, behind those below it
abbrev pub next_port : ℕ → List ℕ
next_port port = if port == 0 then (codes " " ++ decimal port) else (codes ", " ++ decimal port)

-- the statement for an address that no row has
abbrev pub last_text : TableKind → ℕ → List ℕ
last_text Mac ports = fork_text (ports_from 0 ports)
last_text Fib ports = codes "fail \"no route\";"
