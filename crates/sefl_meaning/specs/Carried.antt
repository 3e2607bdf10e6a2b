-- What a packet carries, and the metadata and cells that references name in it.
use Rattle.std.specs.Prelude.{ℕ, ℤ, bytes_eq, List, [], ◌∷◌, Option, None, Some, option_map, Result, Ok, Err, if◌then◌else◌}
use Rattle.sn_width.specs.declared.ids.NodeId.{NodeId}
use Rattle.sn_width.specs.declared.ids.NameId.{NameId}
use Rattle.sn_width.specs.declared.ids.TagId.{TagId}
use Rattle.sn_width.specs.declared.faults.LayoutFault.{LayoutFault}
use Rattle.sn_width.specs.declared.faults.LayoutFault.TheVariants.{NoMeta}
use Rattle.sefl_syntax.specs.declared.reference.Addr.{Addr}
use Rattle.sefl_syntax.specs.declared.reference.Scope.{Scope}
use Rattle.sefl_syntax.specs.declared.reference.Scope.TheVariants.{Global, Local}
use Rattle.sefl_syntax.specs.declared.reference.Target.{Target}
use Rattle.sefl_syntax.specs.declared.reference.Target.TheVariants.{Header, Meta, Bound}
use Rattle.cell_stacks.specs.Outcome.{and_then, on_ok}
use Rattle.header_layers.specs.Layout as layout
use Rattle.header_layers.specs.Layout.{Layout}
use Rattle.header_layers.specs.Valued.{layout_valued}
use Rattle.cell_stacks.specs.Valued.{valued}
use Rattle.metadata_scopes.specs.Scopes as scopes
use Rattle.metadata_scopes.specs.Scopes.{Metadata}
use Rattle.sefl_meaning.specs.Network.{Network, tag_id, name_id}
use Rattle.sefl_meaning.specs.declared.walk.Iteration.{Iteration}

pub record Carried (V : Type 0) : Type 0 where
  pub layers : Layout V
  pub scopes : Metadata V

-- where code runs: in this box of this net, in the iterations of the Fors round it, the innermost first
pub record Scene : Type 0 where
  pub net : Network
  pub node : NodeId
  pub iterations : List Iteration

-- the code of a port begins in no For
abbrev pub scene_at : Network → NodeId → Scene
scene_at net node = record { net = net; node = node; iterations = [] }

abbrev pub Key : Type 0
Key = Option NodeId × NameId

abbrev pub owner_of : Scope → NodeId → Option NodeId
owner_of Global node = None
owner_of Local node = Some node

-- the metadata that the innermost For with the variable stands at
abbrev pub bound_key : List Iteration → List ℕ → Result Key LayoutFault
bound_key [] var = Err NoMeta
bound_key (iteration ∷ iterations) var = if bytes_eq var iteration.var then Ok (iteration.owner, iteration.name) else bound_key iterations var

abbrev pub base_tag : Network → Addr → Option TagId
base_tag net addr = option_map (tag_id net) addr.tag

module _ {V : Type 0} where
  abbrev pub with_layers : Carried V → Layout V → Carried V
  with_layers s layers = record s { layers = layers }

  abbrev pub with_scopes : Carried V → Metadata V → Carried V
  with_scopes s scopes = record s { scopes = scopes }

  -- a step on the header cell or the metadata that a reference names
  abbrev pub stepped : Scene → Target → (Option TagId → ℤ → Layout V → Result (Layout V) LayoutFault)
      → (Key → Metadata V → Result (Metadata V) LayoutFault) → Carried V → Result (Carried V) LayoutFault
  stepped at (Header addr width) on_layers on_scopes s =
      on_ok (with_layers s) (on_layers (base_tag at.net addr) addr.offset s.layers)
  stepped at (Meta scope name width) on_layers on_scopes s =
      on_ok (with_scopes s) (on_scopes (owner_of scope at.node, name_id at.net name) s.scopes)
  stepped at (Bound var width) on_layers on_scopes s =
      and_then (bound_key at.iterations var) (λ key. on_ok (with_scopes s) (on_scopes key s.scopes))

  -- the value that a reference of this width reads
  abbrev pub read_at : Scene → ℕ → Target → Carried V → Result V LayoutFault
  read_at at w (Header addr width) s = layout.value_of (base_tag at.net addr) addr.offset w s.layers
  read_at at w (Meta scope name width) s = scopes.value_of (owner_of scope at.node) (name_id at.net name) w s.scopes
  read_at at w (Bound var width) s = and_then (bound_key at.iterations var) (λ key. scopes.value_of key.0 key.1 w s.scopes)

-- a function of all values
abbrev pub carried_valued : {V W : Type 0} → (V → W) → Carried V → Carried W
carried_valued f s = record { layers = layout_valued f s.layers; scopes = valued f s.scopes }

-- nothing
abbrev pub nothing : {V : Type 0} → Carried V
nothing = record { layers = record { tags = []; heads = [] }; scopes = [] }
