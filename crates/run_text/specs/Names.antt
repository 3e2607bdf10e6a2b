-- The names of a net's ids, the empty name where an id is none of the net's.
use Rattle.std.specs.Prelude.{ℕ, List, [], option_map, unwrap_or, slice_get}
use Rattle.sn_width.specs.declared.ids.NodeId.{NodeId}
use Rattle.sn_width.specs.declared.ids.NameId.{NameId}
use Rattle.sn_width.specs.declared.ids.TagId.{TagId}
use Rattle.net_check.specs.Network.{Network}

-- of a node, by its place in the net
unfoldable pub node_name : Network → NodeId → List ℕ
node_name net node = unwrap_or (option_map (λ d. d.name) (slice_get net.own.nodes node.0)) []

-- of metadata, by the place of the name among the job's
unfoldable pub meta_name : Network → NameId → List ℕ
meta_name net name = unwrap_or (slice_get net.names.metas name.0) []

-- of a tag, by the place of the name among the job's
unfoldable pub tag_name : Network → TagId → List ℕ
tag_name net tag = unwrap_or (slice_get net.names.tags tag.0) []
