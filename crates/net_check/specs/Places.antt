-- What a net says of names, ports, their code and links. Nodes and the codes of a node are numbered from 0 in text order.
use Rattle.std.specs.Prelude.{ℕ, ◌+◌, ◌&&◌, ◌==◌, Bool, true, false, cond, List, [], ◌∷◌, take, Option, None, Some, bytes_eq, find, position, slice_get, filter_map, option_map}
use Rattle.std.specs.Map.{lookup}
use Rattle.std.specs.Option.{option_zip}
use Rattle.sefl_syntax.specs.declared.net.Side.{Side}
use Rattle.sefl_syntax.specs.declared.net.Side.TheVariants.{Inward, Outward}
use Rattle.sefl_syntax.specs.declared.net.Link.{Link}
use Rattle.sefl_syntax.specs.Trees.{InstrTree, allocate, deallocate, assign, assign_any, create_tag, set_tag, destroy_tag, constrain, fail, branch, each, forward, fork, block, no_op, CodeTree, no_code, instr_and, PortTree, DeclTree, NetTree}
use Rattle.job_items.specs.Nodes.{codes_of}

-- names

abbrev pub has_name : List ℕ → DeclTree → Bool
has_name name d = bytes_eq name d.name

-- the number of the first node of the name
abbrev pub node_position : NetTree → List ℕ → Option ℕ
node_position net name = position (has_name name) net.nodes

-- code

abbrev pub is_same_side : Side → Side → Bool
is_same_side Inward Inward = true
is_same_side Inward Outward = false
is_same_side Outward Inward = false
is_same_side Outward Outward = true

-- the code is that of this port
abbrev pub is_port : Side → ℕ → PortTree → Bool
is_port side port p = is_same_side p.side side && p.port == port

abbrev pub codes_of_node : Option DeclTree → List PortTree
codes_of_node None = []
codes_of_node (Some d) = codes_of d.body

-- the codes of the node of this number; where there is no such node there are none
abbrev pub codes_at : NetTree → ℕ → List PortTree
codes_at net node = codes_of_node (slice_get net.nodes node)

-- the code of a port: the first that the node has for it
abbrev pub code_of : NetTree → ℕ → Side → ℕ → Option CodeTree
code_of net node side port = option_map (λ p. p.code) (find (is_port side port) (codes_at net node))

-- sites

abbrev mutual
  -- how many instructions the blocks of an instruction have
  pub inner_size : InstrTree → ℕ
  inner_size (branch test first other) = code_size first + code_size other
  inner_size (each var pattern body) = code_size body
  inner_size (block body) = code_size body
  inner_size (allocate target) = 0
  inner_size (deallocate target) = 0
  inner_size (assign target value) = 0
  inner_size (assign_any target) = 0
  inner_size (create_tag name addr) = 0
  inner_size (set_tag name addr) = 0
  inner_size (destroy_tag name) = 0
  inner_size (constrain test) = 0
  inner_size (fail text) = 0
  inner_size (forward port) = 0
  inner_size (fork ports) = 0
  inner_size no_op = 0

  -- how many instructions code has, those in blocks too
  pub code_size : CodeTree → ℕ
  code_size no_code = 0
  code_size (instr_and i is) = 1 + inner_size i + code_size is

-- an instruction, and those in its blocks
abbrev pub instr_size : InstrTree → ℕ
instr_size i = 1 + inner_size i

-- how many items codes are: each code and its instructions
abbrev pub codes_size : List PortTree → ℕ
codes_size [] = 0
codes_size (p ∷ ps) = 1 + code_size p.code + codes_size ps

-- a node and its codes
abbrev pub decl_size : DeclTree → ℕ
decl_size d = 1 + codes_size (codes_of d.body)

abbrev pub nodes_size : List DeclTree → ℕ
nodes_size [] = 0
nodes_size (d ∷ ds) = decl_size d + nodes_size ds

-- the site and the index of the first of these codes that is for the port, where the first of all has this site and this index
abbrev pub place_among : ℕ → ℕ → Side → ℕ → List PortTree → Option (ℕ × ℕ)
place_among site index side port [] = None
place_among site index side port (p ∷ ps) =
    cond (is_port side port p) (Some (site, index)) (place_among (site + (1 + code_size p.code)) (index + 1) side port ps)

-- the site of a node: how many items the nodes before it are
abbrev pub node_site : List DeclTree → ℕ → ℕ
node_site nodes node = nodes_size (take node nodes)

abbrev pub place_in : List DeclTree → ℕ → Side → ℕ → Option (ℕ × ℕ)
place_in nodes node side port = place_among (node_site nodes node + 1) 0 side port (codes_of_node (slice_get nodes node))

-- the site of a port's code, and the index of that code among those of its node
abbrev pub code_place : NetTree → ℕ → Side → ℕ → Option (ℕ × ℕ)
code_place net node side port = place_in net.nodes node side port

-- the site of a port's code
abbrev pub code_site : NetTree → ℕ → Side → ℕ → Option ℕ
code_site net node side port = option_map (λ place. place.0) (code_place net node side port)

-- links

-- a node and a port of it
abbrev pub Port : Type 0
Port = ℕ × ℕ

abbrev pub is_same_port : Port → Port → Bool
is_same_port a b = a.0 == b.0 && a.1 == b.1

-- the port of the node, where there is one
abbrev pub port_on : Option ℕ → ℕ → Option Port
port_on node port = option_map (λ n. (n, port)) node

-- the output port that a link leaves and the input port that it leads to, where both its names are those of nodes
abbrev pub way_of : (List ℕ → Option ℕ) → Link → Option (Port × Port)
way_of named l = option_zip (port_on (named l.from) l.from_port) (port_on (named l.to) l.to_port)

-- where the first of these ways that leaves the port leads
abbrev pub way_from : List (Port × Port) → Port → Option Port
way_from ways port = lookup (λ start. is_same_port start port) ways

-- where the first link that leaves an output port of the node leads; a link that names no node counts for nothing
abbrev pub link_from : NetTree → ℕ → ℕ → Option Port
link_from net node port = way_from (filter_map (way_of (node_position net)) net.links) (node, port)
