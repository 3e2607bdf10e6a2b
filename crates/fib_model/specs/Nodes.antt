-- The nodes of forwarding tables.
use Rattle.std.specs.Prelude.{ℕ, ◌+◌, ◌-◌, ◌*◌, List, [], map, IsPermutation}
use Rattle.std.specs.List.Sorted.{IsNonDecreasingBy}
use Rattle.sefl_syntax.specs.declared.net.Style.{Style}
use Rattle.sefl_syntax.specs.declared.net.Style.TheVariants.{Chain, Grouped, Egress}
use Rattle.sefl_syntax.specs.declared.net.TableKind.TheVariants.{Fib}
use Rattle.sefl_syntax.specs.Trees.{NodeTree}
use Rattle.table_nodes.specs.TableNodes.{IsNode, row_guard}
use Rattle.fib_model.specs.Prefixes.{Row, fib_port}
use Rattle.fib_model.specs.Fibs.{FibSeen}

-- by descending length, and then by ascending address
abbrev pub chain_key : Row → ℕ
chain_key row = (32 - row.1) * 4294967296 + row.0

-- the node of the table in a style; in style chain its tests are those of the rows, the longest first
abbrev pub IsFibNode : FibSeen → Style → NodeTree → Type 0
IsFibNode fib Chain node =
    (ordered : List Row) × IsPermutation fib.rows ordered × IsNonDecreasingBy chain_key ordered
    × IsNode Fib fib.ports (fib_port fib.rows) (map (row_guard Fib) ordered) Chain node
IsFibNode fib Grouped node = IsNode Fib fib.ports (fib_port fib.rows) [] Grouped node
IsFibNode fib Egress node = IsNode Fib fib.ports (fib_port fib.rows) [] Egress node
