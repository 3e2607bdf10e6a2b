-- Look-ups in the tables.
use Rattle.std.specs.Prelude.{ℕ, ◌==◌, cond, List, Option, None, bytes_eq, option_map}
use Rattle.std.specs.Map.{lookup}
use Rattle.std.specs.Ordering.{nat_cmp, ordering_then, is_eq}
use Rattle.std.specs.declared.cmp.Ordering.{Ordering}
use Rattle.sn_width.specs.declared.ids.NodeId.{NodeId}
use Rattle.sefl_syntax.specs.declared.net.Side.{Side}
use Rattle.sefl_syntax.specs.declared.net.Side.TheVariants.{Inward, Outward}
use Rattle.net_check.specs.declared.place.CodePlace.{CodePlace}
use Rattle.net_check.specs.Places.{Port}

-- by the node, and then by the port
abbrev pub port_cmp : NodeId × ℕ → NodeId × ℕ → Ordering
port_cmp a b = ordering_then (nat_cmp a.0.0 b.0.0) (nat_cmp a.1 b.1)

-- the value at a port of a node
abbrev pub at_port : {V : Type 0} → List ((NodeId × ℕ) × V) → NodeId → ℕ → Option V
at_port entries node port = lookup (λ own. is_eq (port_cmp (node, port) own)) entries

-- the numbers that ids stand for
abbrev pub number_of : NodeId → ℕ
number_of id = id.0

abbrev pub port_of : NodeId × ℕ → Port
port_of p = (p.0.0, p.1)

abbrev pub site_and_index : CodePlace → ℕ × ℕ
site_and_index place = (place.site.0, place.index)

abbrev pub position_at : List (List ℕ × NodeId) → List ℕ → Option ℕ
position_at entries name = option_map number_of (lookup (bytes_eq name) entries)

abbrev pub way_at : List ((NodeId × ℕ) × (NodeId × ℕ)) → NodeId → ℕ → Option Port
way_at entries node port = option_map port_of (at_port entries node port)

-- of two tables, that of the side
abbrev pub on_side : {V : Type 0} → Side → V → V → V
on_side Inward ins outs = ins
on_side Outward ins outs = outs

abbrev pub place_at : List ((NodeId × ℕ) × CodePlace) → List ((NodeId × ℕ) × CodePlace) → NodeId → Side → ℕ → Option (ℕ × ℕ)
place_at ins outs node side port = option_map site_and_index (at_port (on_side side ins outs) node port)

-- what is found of this node, and nothing of any other
abbrev pub of_node : {A : Type 0} → NodeId → NodeId → Option A → Option A
of_node own node found = cond (own.0 == node.0) found None
