use Rattle.std.proofs.Common.{◌≡◌, ℕ, filter_map, drop}
use Rattle.std.specs.Option.{option_or}
use Rattle.sn_width.specs.declared.ids.NodeId.{NodeId}
use Rattle.net_check.specs.Lookups.{position_at, way_at}
use Rattle.net_check.specs.Places.{way_from, way_of}
use Rattle.net_check.proofs.links.ways_of.Given as goal

abbrev pub invariant-loop-link : goal.invariant-loop-link
invariant-loop-link l = (node : NodeId) (port : ℕ)
    → option_or (way_at l.ways.entries node port) (way_from (filter_map (way_of (position_at l.ids.entries)) (drop l.link-index l.links)) (node.0, port))
    ≡ way_from (filter_map (way_of (position_at l.ids.entries)) l.links) (node.0, port)
