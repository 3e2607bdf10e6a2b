-- Jobs whose tables have been read.
use Rattle.std.specs.Prelude.{ℕ, Bool, true, false, not, ◌&&◌, List, [], ◌∷◌, zero, suc}
use Rattle.sefl_syntax.specs.Trees.{NodeTree, BodyTree, code, table, DeclTree, JobTree}

abbrev pub is_code : BodyTree → Bool
is_code (code node) = true
is_code (table kind file style) = false

abbrev pub all_code : List DeclTree → Bool
all_code [] = true
all_code (d ∷ ds) = is_code d.body && all_code ds

-- each node of the job has its code
abbrev pub is_filled : JobTree → Bool
is_filled j = all_code j.net.nodes

abbrev pub is_table_in : ℕ → List DeclTree → Bool
is_table_in index [] = false
is_table_in zero (d ∷ ds) = not (is_code d.body)
is_table_in (suc index) (d ∷ ds) = is_table_in index ds

-- the node at the index is a table
abbrev pub is_table_at : ℕ → JobTree → Bool
is_table_at index j = is_table_in index j.net.nodes

abbrev pub nodes_with_code : ℕ → NodeTree → List DeclTree → List DeclTree
nodes_with_code index node [] = []
nodes_with_code zero node (d ∷ ds) = record { name = d.name; body = code node } ∷ ds
nodes_with_code (suc index) node (d ∷ ds) = d ∷ nodes_with_code index node ds

-- the job in which the node at the index has this code
abbrev pub with_code : ℕ → NodeTree → JobTree → JobTree
with_code index node j =
    record { net = record { nodes = nodes_with_code index node j.net.nodes; links = j.net.links }; injection = j.injection; asks = j.asks }
