-- What an accepted net and an accepted injection are seen as, and what their readers find.
use Rattle.std.specs.Prelude.{ℕ, Bool, bytes_eq, List, [], ◌∷◌, ◌++◌, length, Option, None, Some, is_none, option_map, position, slice_get, unwrap_or}
use Rattle.std.specs.Map.{keys_of}
use Rattle.sn_width.specs.declared.ids.NodeId.{NodeId}
use Rattle.sn_width.specs.declared.ids.NameId.{NameId}
use Rattle.sn_width.specs.declared.ids.TagId.{TagId}
use Rattle.sefl_syntax.specs.declared.net.Side.{Side}
use Rattle.sefl_syntax.specs.declared.net.Side.TheVariants.{Inward, Outward}
use Rattle.sefl_syntax.specs.declared.job.RawField.{RawField}
use Rattle.sefl_syntax.specs.declared.job.RawInjection.{RawInjection}
use Rattle.sefl_syntax.specs.declared.net.RawNet.{RawNet}
use Rattle.sefl_syntax.specs.Views.{net_tree, injection_tree}
use Rattle.sefl_syntax.specs.Trees.{CodeTree, no_code, NetTree, InjectionTree}
use Rattle.job_items.specs.declared.ports.Ports.{Ports}
use Rattle.job_items.specs.AtomRules.{width_of}
use Rattle.job_items.specs.Nodes.{ports_of}
use Rattle.job_names.specs.Names.{Names}
use Rattle.net_check.specs.Places.{code_of}

-- the job's own nodes and links, the names and patterns of the whole job, and for each pattern the ids of the names that it
-- finds, ascending
pub record Network : Type 0 where
  pub own : NetTree
  pub names : Names
  pub found : List (List NameId)

-- the job's own injection, the node that it names, and a bound on the choices of cases that decisions on its packets try
pub record Entry : Type 0 where
  pub own : InjectionTree
  pub node : NodeId
  pub most_choices : ℕ

-- what an accepted net holds, and an accepted injection
pub record NetParts : Type 0 where
  pub raw : RawNet
  pub names : Names
  pub found : List (List NameId)

pub record EntryParts : Type 0 where
  pub raw : RawInjection
  pub node : NodeId
  pub most_choices : ℕ

abbrev pub network : NetParts → Network
network p = record { own = net_tree p.raw; names = p.names; found = p.found }

abbrev pub entry : EntryParts → Entry
entry p = record { own = injection_tree p.raw; node = p.node; most_choices = p.most_choices }

-- with another bound
abbrev pub with_choices : ℕ → Entry → Entry
with_choices most i = record i { most_choices = most }

abbrev pub node_number : NodeId → ℕ
node_number id = id.0

abbrev pub name_number : NameId → ℕ
name_number id = id.0

abbrev pub tag_number : TagId → ℕ
tag_number id = id.0

abbrev pub ports_on : Side → Ports → ℕ
ports_on Inward ports = ports.ins
ports_on Outward ports = ports.outs

-- the numbers of ports of the node with this id
abbrev pub node_ports : Network → NodeId → Option Ports
node_ports net node = option_map (λ d. ports_of d.body) (slice_get net.own.nodes node.0)

-- the code of a port; a port without code has an empty one
abbrev pub code_at : Network → NodeId → Side → ℕ → CodeTree
code_at net node side port = unwrap_or (code_of net.own node.0 side port) no_code

abbrev pub found_at : Option ℕ → List (List NameId) → List NameId
found_at None found = []
found_at (Some index) found = unwrap_or (slice_get found index) []

-- the names that a pattern of the job finds
abbrev pub names_found : Network → List ℕ → List NameId
names_found net pattern = found_at (position (bytes_eq pattern) (keys_of net.names.patterns)) net.found

abbrev pub is_unknown : RawField → Bool
is_unknown f = is_none f.value

abbrev pub width_unless : Option ℕ → ℕ → List ℕ
width_unless None width = width ∷ []
width_unless (Some n) width = []

-- the width of a field whose value is unknown
abbrev pub unknown_width : RawField → List ℕ
unknown_width f = width_unless f.value (width_of f.target)

-- the widths of the unknown fields, in text order
abbrev pub unknown_widths : List RawField → List ℕ
unknown_widths [] = []
unknown_widths (f ∷ fs) = unknown_width f ++ unknown_widths fs

-- how many fields have an unknown value
abbrev pub unknown_count : Entry → ℕ
unknown_count i = length (unknown_widths i.own.fields)
