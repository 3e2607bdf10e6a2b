-- The items of a job in the order in which they begin in its text, each with what its rules look back at.
use Rattle.std.specs.Prelude.{ℕ, List, [], ◌∷◌, ◌++◌, map, Option, nat_eq}
use Rattle.sefl_syntax.specs.declared.reference.Addr.{Addr}
use Rattle.sefl_syntax.specs.declared.net.Side.{Side}
use Rattle.sefl_syntax.specs.declared.net.Side.TheVariants.{Inward, Outward}
use Rattle.sefl_syntax.specs.declared.net.Link.{Link}
use Rattle.sefl_syntax.specs.declared.job.RawField.{RawField}
use Rattle.sefl_syntax.specs.Trees.{CondTree, InstrTree, allocate, deallocate, assign, assign_any, create_tag, set_tag, destroy_tag, constrain, fail, branch, each, forward, fork, block, no_op, CodeTree, no_code, instr_and, PortTree, DeclTree, NetTree, InjectionTree, AskTree, JobTree}
use Rattle.indexmap.specs.IndexSet.{insert_key}
use Rattle.job_items.specs.declared.ports.Ports.{Ports}
use Rattle.job_items.specs.Nodes.{Nodes, Outputs, node_named, with_node, nodes_after, with_link, ports_of, codes_of}
use Rattle.job_items.specs.Tags.{Tags, with_tag, tags_after}

-- where an instruction stands: how many output ports its node has, the side of its port, and the
-- variables of the Fors round it, the innermost first
pub record Place : Type 0 where
  pub outs : ℕ
  pub side : Side
  pub vars : List (List ℕ)

pub data Item : Type 0 where
  -- a node, behind these
  node_item : Nodes → DeclTree → Item
  -- the code of a port, where these input ports and these output ports of its node have code
  port_item : Ports → List ℕ → List ℕ → PortTree → Item
  instr_item : Place → InstrTree → Item
  -- a link between these nodes, where the names are those of nodes; links leave these output ports already
  link_item : Outputs → Option Ports → Option Ports → Link → Item
  -- an injection into this port of a node, where the name is that of one
  injection_item : Option Ports → ℕ → Item
  -- a line that makes a tag, behind lines that made these
  tag_item : Tags → List ℕ × Addr → Item
  -- a field, where these tags are made, behind these fields
  field_item : Tags → List RawField → RawField → Item
  -- a test, where these tags and fields are made
  test_item : Tags → List RawField → CondTree → Item
  ask_item : AskTree → Item

-- the place in the body of a For
abbrev pub within : Place → List ℕ → Place
within place var = record { outs = place.outs; side = place.side; vars = var ∷ place.vars }

abbrev mutual
  -- the instructions in the blocks of an instruction
  pub inner_items : Place → InstrTree → List Item
  inner_items place (branch test first other) = code_items place first ++ code_items place other
  inner_items place (each var pattern body) = code_items (within place var) body
  inner_items place (block body) = code_items place body
  inner_items place (allocate target) = []
  inner_items place (deallocate target) = []
  inner_items place (assign target value) = []
  inner_items place (assign_any target) = []
  inner_items place (create_tag name addr) = []
  inner_items place (set_tag name addr) = []
  inner_items place (destroy_tag name) = []
  inner_items place (constrain test) = []
  inner_items place (fail text) = []
  inner_items place (forward port) = []
  inner_items place (fork ports) = []
  inner_items place no_op = []

  pub code_items : Place → CodeTree → List Item
  code_items place no_code = []
  code_items place (instr_and i is) = instr_item place i ∷ inner_items place i ++ code_items place is

-- an instruction, and those in its blocks
abbrev pub instr_items : Place → InstrTree → List Item
instr_items place i = instr_item place i ∷ inner_items place i

-- the input ports with code, with a port of this side
abbrev pub with_input : Side → ℕ → List ℕ → List ℕ
with_input Inward port ins = insert_key nat_eq ins port
with_input Outward port ins = ins

-- the output ports with code, with a port of this side
abbrev pub with_output : Side → ℕ → List ℕ → List ℕ
with_output Inward port outs = outs
with_output Outward port outs = insert_key nat_eq outs port

-- the code of a port, where these ports of its node have code already
abbrev pub one_port_items : Ports → List ℕ → List ℕ → PortTree → List Item
one_port_items ports ins outs p = port_item ports ins outs p ∷ code_items (record { outs = ports.outs; side = p.side; vars = [] }) p.code

abbrev pub port_items : Ports → List ℕ → List ℕ → List PortTree → List Item
port_items ports ins outs [] = []
port_items ports ins outs (p ∷ ps) =
    one_port_items ports ins outs p ++ port_items ports (with_input p.side p.port ins) (with_output p.side p.port outs) ps

-- a node with the codes of its ports
abbrev pub decl_items : Nodes → DeclTree → List Item
decl_items nodes d = node_item nodes d ∷ port_items (ports_of d.body) [] [] (codes_of d.body)

abbrev pub node_items : Nodes → List DeclTree → List Item
node_items nodes [] = []
node_items nodes (d ∷ ds) = decl_items nodes d ++ node_items (with_node nodes d) ds

abbrev pub link_items : Nodes → Outputs → List Link → List Item
link_items nodes used [] = []
link_items nodes used (l ∷ ls) =
    link_item used (node_named nodes l.from) (node_named nodes l.to) l ∷ link_items nodes (with_link used l) ls

abbrev pub net_items : NetTree → List Item
net_items net = node_items [] net.nodes ++ link_items (nodes_after [] net.nodes) [] net.links

abbrev pub tag_items : Tags → List (List ℕ × Addr) → List Item
tag_items tags [] = []
tag_items tags (line ∷ lines) = tag_item tags line ∷ tag_items (with_tag tags line) lines

abbrev pub field_items : Tags → List RawField → List RawField → List Item
field_items tags before [] = []
field_items tags before (f ∷ fs) = field_item tags before f ∷ field_items tags (before ++ f ∷ []) fs

-- the fields and the tests of an injection that makes these tags
abbrev pub value_items : Tags → InjectionTree → List Item
value_items tags i = field_items tags [] i.fields ++ map (test_item tags i.fields) i.tests

-- the injection and its lines
abbrev pub injection_items : Nodes → InjectionTree → List Item
injection_items nodes i =
    injection_item (node_named nodes i.node) i.port ∷ (tag_items [] i.tags ++ value_items (tags_after [] i.tags) i)

-- the number of an item in this list is its site
abbrev pub job_items : JobTree → List Item
job_items j = net_items j.net ++ (injection_items (nodes_after [] j.net.nodes) j.injection ++ map ask_item j.asks)
