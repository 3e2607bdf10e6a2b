-- Nodes and outputs as the code keeps them.
use denote.Ref.{Bor}
use Rattle.std.specs.Prelude.{ℕ, List, map}
use Rattle.job_items.specs.declared.ports.Ports.{Ports}
use Rattle.job_items.specs.Nodes.{Nodes, Outputs}

abbrev pub lent_node : Bor (List ℕ) × Ports → List ℕ × Ports
lent_node e = (e.0.now, e.1)

abbrev pub lent_nodes : List (Bor (List ℕ) × Ports) → Nodes
lent_nodes entries = map lent_node entries

abbrev pub lent_output : Bor (List ℕ) × ℕ → List ℕ × ℕ
lent_output k = (k.0.now, k.1)

abbrev pub lent_outputs : List (Bor (List ℕ) × ℕ) → Outputs
lent_outputs keys = map lent_output keys
