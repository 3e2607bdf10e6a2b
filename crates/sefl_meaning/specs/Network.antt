-- What the run of a packet finds in an accepted net.
use Rattle.std.specs.Prelude.{ℕ, bytes_eq, List, Option, option_map, unwrap_or}
use Rattle.std.specs.List.{position_or_len}
use Rattle.sn_width.specs.declared.ids.TagId.{TagId}
use Rattle.sn_width.specs.declared.ids.NameId.{NameId}
use Rattle.sn_width.specs.declared.ids.NodeId.{NodeId}
use Rattle.sefl_syntax.specs.declared.net.Side.{Side}
use Rattle.sefl_syntax.specs.Trees.{CodeTree}
use Rattle.net_check.specs.Places.{Port, code_site, link_from}
use Rattle.net_check.specs.Network.{code_at}
pub use Rattle.net_check.specs.Network.{Network, Entry, names_found}
pub use Rattle.net_check.specs.Places.{code_size, inner_size}

-- the id of a name is its index among the names of the job; the number past them where it is none of these
abbrev pub tag_id : Network → List ℕ → TagId
tag_id net name = record { 0 = position_or_len (bytes_eq name) net.names.tags }

abbrev pub name_id : Network → List ℕ → NameId
name_id net name = record { 0 = position_or_len (bytes_eq name) net.names.metas }

-- the code of a port, with its site; a port without code has an empty one
abbrev pub code_of : Network → NodeId → Side → ℕ → ℕ × CodeTree
code_of net node side port = (unwrap_or (code_site net.own node.0 side port) 0, code_at net node side port)

abbrev pub port_at : Port → NodeId × ℕ
port_at p = (record { 0 = p.0 }, p.1)

-- the node and the input port that the link of an output port leads to
abbrev pub link_of : Network → NodeId → ℕ → Option (NodeId × ℕ)
link_of net node port = option_map port_at (link_from net.own node.0 port)
