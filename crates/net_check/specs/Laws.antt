-- What the place of a port's code says of the items of a job, and of the node's codes.
use Rattle.std.specs.Prelude.{◌≡◌, ℕ, ◌+◌, ◌<◌, List, [], ◌∷◌, ◌++◌, drop, Option, Some, None, slice_get}
use Rattle.sefl_syntax.specs.declared.net.Side.{Side}
use Rattle.sefl_syntax.specs.declared.net.Link.{Link}
use Rattle.sefl_syntax.specs.Trees.{CodeTree, PortTree, DeclTree, NetTree}
use Rattle.job_items.specs.declared.ports.Ports.{Ports}
use Rattle.job_items.specs.Items.{Place, Item, port_item, code_items, net_items}
use Rattle.job_items.specs.Nodes.{ports_of}
use Rattle.net_check.specs.Places.{Port, codes_at, code_of, code_size}

abbrev pub port_with : Side → ℕ → CodeTree → PortTree
port_with side port code = record { side = side; port = port; code = code }

-- where the instructions of a port's code stand that are in no block
abbrev pub place_on : Ports → Side → Place
place_on ports side = record { outs = ports.outs; side = side; vars = [] }

-- at this place is the code: the node has it there, and among the items of the net the one at the site begins it, with its
-- instructions behind that
pub record IsCodePlace (net : NetTree) (node : ℕ) (side : Side) (port : ℕ) (place : ℕ × ℕ) (code : CodeTree) : Type 0 where
  pub decl : DeclTree
  pub is_node : slice_get net.nodes node ≡ Some decl
  pub is_code : code_of net node side port ≡ Some code
  pub at_index : slice_get (codes_at net node) place.1 ≡ Some (port_with side port code)
  -- the ports of the node that have code before
  pub ins : List ℕ
  pub outs : List ℕ
  pub after : List Item
  pub at_site : drop place.0 (net_items net)
      ≡ port_item (ports_of decl.body) ins outs (port_with side port code) ∷ (code_items (place_on (ports_of decl.body) side) code ++ after)

-- the items behind that at the site are the code's instructions, in the order in which they begin
abbrev pub AreInstrSites : NetTree → ℕ → Place → CodeTree → Type 0
AreInstrSites net site place code =
    (k : ℕ) → k < code_size code → slice_get (net_items net) (site + 1 + k) ≡ slice_get (code_items place code) k

-- a link that leaves the first port and leads to the second, where nodes have these numbers
pub record IsLinked (named : List ℕ → Option ℕ) (links : List Link) (start end : Port) : Type 0 where
  pub index : ℕ
  pub link : Link
  pub is_link : slice_get links index ≡ Some link
  pub from : named link.from ≡ Some start.0
  pub from_port : link.from_port ≡ start.1
  pub to : named link.to ≡ Some end.0
  pub to_port : link.to_port ≡ end.1

-- each link that leaves the port names no node that it leads to
abbrev pub AreLoose : (List ℕ → Option ℕ) → List Link → Port → Type 0
AreLoose named links start =
    (index : ℕ) (link : Link) → slice_get links index ≡ Some link
    → named link.from ≡ Some start.0 → link.from_port ≡ start.1 → named link.to ≡ None

-- the node of the number has the name
abbrev pub IsNamed : NetTree → ℕ → List ℕ → Type 0
IsNamed net node name = (d : DeclTree) × (slice_get net.nodes node ≡ Some d) × (d.name ≡ name)
