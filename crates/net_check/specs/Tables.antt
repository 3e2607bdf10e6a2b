-- What the tables of a net are seen as.
use Rattle.std.specs.Prelude.{◌≡◌, ℕ, List, Option}
use Rattle.sn_width.specs.declared.ids.NodeId.{NodeId}
use Rattle.sefl_syntax.specs.declared.net.Side.{Side}
use Rattle.sefl_syntax.specs.Trees.{NetTree}
use Rattle.net_check.specs.declared.place.CodePlace.{CodePlace}
use Rattle.net_check.specs.Lookups.{position_at, place_at, way_at}
use Rattle.net_check.specs.Places.{Port, node_position, code_place, link_from}

-- nodes by name, codes by port for each side, and links by the output port that they leave
pub record Tables : Type 0 where
  pub nodes : List (List ℕ × NodeId)
  pub ins : List ((NodeId × ℕ) × CodePlace)
  pub outs : List ((NodeId × ℕ) × CodePlace)
  pub links : List ((NodeId × ℕ) × (NodeId × ℕ))

-- what each reader of tables answers

abbrev pub node_found : Tables → List ℕ → Option ℕ
node_found t name = position_at t.nodes name

abbrev pub code_found : Tables → NodeId → Side → ℕ → Option (ℕ × ℕ)
code_found t node side port = place_at t.ins t.outs node side port

abbrev pub link_found : Tables → NodeId → ℕ → Option Port
link_found t node port = way_at t.links node port

-- each answer is what the net says
pub record AreTablesOf (net : NetTree) (t : Tables) : Type 0 where
  pub nodes : (name : List ℕ) → node_found t name ≡ node_position net name
  pub codes : (node : NodeId) (side : Side) (port : ℕ) → code_found t node side port ≡ code_place net node.0 side port
  pub links : (node : NodeId) (port : ℕ) → link_found t node port ≡ link_from net node.0 port
