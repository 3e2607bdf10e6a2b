-- Where the node of a file's table sends an address.
use Rattle.std.specs.Prelude.{ℕ, ◌≡◌, ◌^◌, ◌<◌, List, [], Ok}
use Rattle.sefl_syntax.specs.declared.net.Style.{Style}
use Rattle.sefl_syntax.specs.Trees.{NodeTree}
use Rattle.table_nodes.specs.Exits.{exits}
use Rattle.table_nodes.specs.TableNodes.{port_or}
use Rattle.fib_model.specs.Prefixes.{fib_port}
use Rattle.fib_model.specs.Fibs.{FibSeen, IsFib, fib_of}
use Rattle.fib_model.specs.Nodes.{IsFibNode}

-- in each style to the port of its longest prefix, or nowhere where it has none
abbrev pub FilesSend : Type 0
FilesSend =
    (bytes : List ℕ) (fib : FibSeen) (style : Style) (node : NodeTree) → fib_of bytes ≡ Ok fib → IsFibNode fib style node
    → (a : ℕ) → a < 2 ^ 32 → exits node a ≡ port_or [] (fib_port fib.rows a)

-- the table of a file is one of prefixes
abbrev pub FilesHaveFibs : Type 0
FilesHaveFibs = (bytes : List ℕ) (fib : FibSeen) → fib_of bytes ≡ Ok fib → IsFib fib.ports fib.rows
