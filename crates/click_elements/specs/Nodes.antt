-- The nodes of elements.
use Rattle.std.specs.Prelude.{ℕ, nat_eq, if◌then◌else◌, [], ◌∷◌, length, Option, None, Some}
use Rattle.sefl_syntax.specs.Trees.{CodeTree, NodeTree}
use Rattle.table_nodes.specs.TableNodes.{in_code, node_with}
use Rattle.click_elements.specs.declared.node.Leads.{Leads}
use Rattle.click_elements.specs.Classes.{ClassSeen, dec_ip_ttl, ether_mirror, ip_mirror, tee, discard, strip, ether_encap, ip_filter, ip_classifier}
use Rattle.click_elements.specs.Codes.{drop_code, dec_ip_ttl_code, ether_mirror_code, ip_mirror_code, tee_code, strip_code, ether_encap_code, ip_filter_code, ip_classifier_code}

abbrev pub most_of_tee : Option ℕ → ℕ
most_of_tee None = 1024
most_of_tee (Some n) = n

-- how many outputs an element may have
abbrev pub most_outputs : ClassSeen → ℕ
most_outputs dec_ip_ttl = 2
most_outputs ether_mirror = 1
most_outputs ip_mirror = 1
most_outputs (tee outputs) = most_of_tee outputs
most_outputs discard = 0
most_outputs strip = 1
most_outputs (ether_encap kind source destination) = 1
most_outputs (ip_filter rules) = 1
most_outputs (ip_classifier patterns) = length patterns

-- a Tee that does not say how many outputs it has has those up to the last that is connected, and one at least
abbrev pub tee_outputs : Option ℕ → Leads → ℕ
tee_outputs None leads = if nat_eq leads.widest 0 then 1 else leads.widest
tee_outputs (Some n) leads = n

-- how many outputs an element has
abbrev pub outputs_of : ClassSeen → Leads → ℕ
outputs_of dec_ip_ttl leads = if leads.second then 2 else 1
outputs_of ether_mirror leads = 1
outputs_of ip_mirror leads = 1
outputs_of (tee outputs) leads = tee_outputs outputs leads
outputs_of discard leads = 0
outputs_of strip leads = 1
outputs_of (ether_encap kind source destination) leads = 1
outputs_of (ip_filter rules) leads = 1
outputs_of (ip_classifier patterns) leads = length patterns

abbrev pub input_code : ClassSeen → Leads → CodeTree
input_code dec_ip_ttl leads = dec_ip_ttl_code leads.second
input_code ether_mirror leads = ether_mirror_code
input_code ip_mirror leads = ip_mirror_code
input_code (tee outputs) leads = tee_code (tee_outputs outputs leads)
input_code discard leads = drop_code
input_code strip leads = strip_code
input_code (ether_encap kind source destination) leads = ether_encap_code kind source destination
input_code (ip_filter rules) leads = ip_filter_code rules
input_code (ip_classifier patterns) leads = ip_classifier_code patterns

-- one input port, and the code at it
abbrev pub class_node : ClassSeen → Leads → NodeTree
class_node class leads = node_with (outputs_of class leads) (in_code (input_code class leads) ∷ [])
