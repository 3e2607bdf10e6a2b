-- The nets of configurations.
use Rattle.std.specs.Prelude.{ℕ, ◌+◌, ◌==◌, ◌||◌, nat_lt, bytes_eq, if◌then◌else◌, List, [], ◌∷◌, map, false}
use Rattle.sefl_syntax.specs.declared.net.Link.{Link}
use Rattle.sefl_syntax.specs.Trees.{NodeTree, DeclTree, NetTree, code}
use Rattle.click_elements.specs.declared.node.Leads.{Leads}
use Rattle.click_elements.specs.Nodes.{class_node}
use Rattle.click_model.specs.Declarations.{ElementSeen}
use Rattle.click_model.specs.Configs.{ConfigSeen}

-- no output is connected
abbrev pub no_leads : Leads
no_leads = record { second = false; widest = 0 }

-- one output more that is connected
abbrev pub with_port : Leads → ℕ → Leads
with_port leads port = record {
  second = leads.second || port == 1;
  widest = if nat_lt port 1024 then (if nat_lt leads.widest (port + 1) then port + 1 else leads.widest) else leads.widest;
}

-- what is connected of the outputs of the element with that name
abbrev pub leads_from : List ℕ → Leads → List Link → Leads
leads_from name found [] = found
leads_from name found (link ∷ links) =
    leads_from name (if bytes_eq link.from name then with_port found link.from_port else found) links

abbrev pub leads_of : List ℕ → List Link → Leads
leads_of name links = leads_from name no_leads links

-- the node of an element of the configuration
abbrev pub element_node : List Link → ElementSeen → NodeTree
element_node links e = class_node e.class (leads_of e.name links)

abbrev pub decl_with : Leads → ElementSeen → DeclTree
decl_with leads e = record { name = e.name; body = code (class_node e.class leads) }

abbrev pub element_decl : List Link → ElementSeen → DeclTree
element_decl links e = decl_with (leads_of e.name links) e

-- nodes in the order of declaration, links in that of connection
abbrev pub click_net : ConfigSeen → NetTree
click_net c = record { nodes = map (element_decl c.connections) c.elements; links = c.connections }
