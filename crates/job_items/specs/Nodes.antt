-- The nodes of a net by name, and the output ports that links leave.
use Rattle.std.specs.Prelude.{ℕ, ◌&&◌, ◌==◌, Bool, List, [], ◌∷◌, Option, bytes_eq}
use Rattle.std.specs.declared.cmp.Ordering.{Ordering}
use Rattle.std.specs.Ordering.{nat_cmp, ordering_then}
use Rattle.std.specs.Cmp.Lexicographic.{slice_cmp}
use Rattle.std.specs.Map.{lookup}
use Rattle.std.specs.BTreeSet.{insert_key}
use Rattle.indexmap.specs.IndexMap.{insert_entry}
use Rattle.sefl_syntax.specs.declared.net.Link.{Link}
use Rattle.sefl_syntax.specs.Trees.{PortTree, BodyTree, code, table, DeclTree}
use Rattle.job_items.specs.declared.ports.Ports.{Ports}

-- names with the numbers of ports, each name once, in text order
abbrev pub Nodes : Type 0
Nodes = List (List ℕ × Ports)

abbrev pub node_named : Nodes → List ℕ → Option Ports
node_named nodes name = lookup (bytes_eq name) nodes

-- a table has no ports and no code before it is read
abbrev pub ports_of : BodyTree → Ports
ports_of (code n) = record { ins = n.ins; outs = n.outs }
ports_of (table kind file style) = record { ins = 0; outs = 0 }

abbrev pub codes_of : BodyTree → List PortTree
codes_of (code n) = n.codes
codes_of (table kind file style) = []

abbrev pub with_node : Nodes → DeclTree → Nodes
with_node nodes d = insert_entry bytes_eq nodes d.name (ports_of d.body)

abbrev pub nodes_after : Nodes → List DeclTree → Nodes
nodes_after nodes [] = nodes
nodes_after nodes (d ∷ ds) = nodes_after (with_node nodes d) ds

-- output ports, each once, ascending by the names of their nodes and then by their numbers
abbrev pub Outputs : Type 0
Outputs = List (List ℕ × ℕ)

abbrev pub is_same_output : List ℕ × ℕ → List ℕ × ℕ → Bool
is_same_output a b = bytes_eq a.0 b.0 && a.1 == b.1

abbrev pub output_cmp : List ℕ × ℕ → List ℕ × ℕ → Ordering
output_cmp a b = ordering_then (slice_cmp nat_cmp a.0 b.0) (nat_cmp a.1 b.1)

-- with the output port that a link leaves
abbrev pub with_link : Outputs → Link → Outputs
with_link used l = insert_key output_cmp used (l.from, l.from_port)
