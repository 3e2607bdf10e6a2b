-- Ids and places that a net finds by their names.
use Rattle.std.specs.Prelude.{◌≡◌, ◌<◌, ◌^◌, Some}
use Rattle.sn_width.specs.declared.ids.NodeId.{NodeId}
use Rattle.sn_width.specs.declared.ids.NameId.{NameId}
use Rattle.sn_width.specs.declared.ids.TagId.{TagId}
use Rattle.sefl_meaning.specs.declared.walk.Place.{Place}
use Rattle.net_check.specs.Network.{Network}
use Rattle.run_text.specs.Names.{node_name, meta_name, tag_name}
use Rattle.report_names.specs.Names.{node_named, meta_named, tag_named}

abbrev pub IsOwnNode : Network → NodeId → Type 0
IsOwnNode net node = node_named net (node_name net node) ≡ Some node.0

abbrev pub IsOwnName : Network → NameId → Type 0
IsOwnName net name = meta_named net (meta_name net name) ≡ Some name.0

abbrev pub IsOwnTag : Network → TagId → Type 0
IsOwnTag net tag = tag_named net (tag_name net tag) ≡ Some tag.0

-- a port of a node, whose number has 32 bits
abbrev pub IsOwnPlace : Network → Place → Type 0
IsOwnPlace net place = IsOwnNode net place.node × (place.port < 2 ^ 32)
