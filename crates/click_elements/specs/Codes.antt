-- The code of the input of elements.
use Rattle.std.specs.Prelude.{ℕ, suc, Bool, if◌then◌else◌, List, [], ◌∷◌, map, Some, codes, negsuc}
use Rattle.sn_width.specs.declared.rel.Rel.TheVariants.{Le}
use Rattle.sefl_syntax.specs.declared.expr.Sign.TheVariants.{Minus}
use Rattle.sefl_syntax.specs.declared.reference.Addr.{Addr}
use Rattle.sefl_syntax.specs.declared.reference.Scope.TheVariants.{Local}
use Rattle.sefl_syntax.specs.declared.reference.Target.{Target}
use Rattle.sefl_syntax.specs.declared.reference.Target.TheVariants.{Meta}
use Rattle.sefl_syntax.specs.Trees.{ExprTree, constant, reading, sum, no_summands, summand, CondTree, compare, InstrTree, allocate, deallocate, assign, set_tag, destroy_tag, fail, branch, forward, CodeTree, no_code, instr_and}
use Rattle.table_nodes.specs.TableNodes.{alone, guard_instr, to_all}
use Rattle.table_nodes.specs.Codes.{code_before}
use Rattle.click_elements.specs.declared.class.Primitive.{Primitive}
use Rattle.table_nodes.specs.declared.field.Field.{Field}
use Rattle.table_nodes.specs.declared.field.Field.TheVariants.{FrameDestination, FrameSource, FrameType, TimeToLive, SourceAddress, DestinationAddress, SourcePort, DestinationPort}
use Rattle.click_elements.specs.declared.mirror.Swap.{Swap}
use Rattle.click_elements.specs.declared.mirror.Swap.TheVariants.{FrameAddresses, Addresses, Ports}
use Rattle.click_elements.specs.Classes.{RuleSeen}
use Rattle.table_nodes.specs.Fields.{cell}
use Rattle.click_elements.specs.Patterns.{is_ported, pattern_test}

abbrev pub drop_instr : InstrTree
drop_instr = fail (codes "drop")

abbrev pub drop_code : CodeTree
drop_code = alone drop_instr

abbrev pub forward_code : ℕ → CodeTree
forward_code port = alone (forward port)

-- ---- DecIPTTL

abbrev pub is_expired : CondTree
is_expired = compare Le (reading (cell TimeToLive)) (constant 1)

abbrev pub one_less : ExprTree
one_less = sum (reading (cell TimeToLive)) (summand Minus (constant 1) no_summands)

abbrev pub lowered_code : CodeTree
lowered_code = instr_and (assign (cell TimeToLive) one_less) (forward_code 0)

-- where output 1 is connected, or is not
abbrev pub expired_code : Bool → CodeTree
expired_code connected = if connected then forward_code 1 else drop_code

abbrev pub dec_ip_ttl_code : Bool → CodeTree
dec_ip_ttl_code connected = alone (branch is_expired (expired_code connected) lowered_code)

-- ---- EtherMirror and IPMirror

abbrev pub first_field : Swap → Field
first_field FrameAddresses = FrameDestination
first_field Addresses = SourceAddress
first_field Ports = SourcePort

abbrev pub second_field : Swap → Field
second_field FrameAddresses = FrameSource
second_field Addresses = DestinationAddress
second_field Ports = DestinationPort

-- the local through which the fields are exchanged
abbrev pub between : Swap → Target
between FrameAddresses = Meta Local (codes "m48") 48
between Addresses = Meta Local (codes "m32") 32
between Ports = Meta Local (codes "m16") 16

-- the values of two cells are exchanged by way of a third one
abbrev pub exchange : Target → Target → Target → List InstrTree
exchange x y t = allocate t ∷ assign t (reading x) ∷ assign x (reading y) ∷ assign y (reading t) ∷ deallocate t ∷ []

abbrev pub swap_list : Swap → List InstrTree
swap_list swap = exchange (cell (first_field swap)) (cell (second_field swap)) (between swap)

abbrev pub swap_code : Swap → CodeTree → CodeTree
swap_code swap later = code_before (swap_list swap) later

abbrev pub ether_mirror_code : CodeTree
ether_mirror_code = swap_code FrameAddresses (forward_code 0)

abbrev pub mirrored_ports : InstrTree
mirrored_ports = branch is_ported (swap_code Ports no_code) no_code

abbrev pub ip_mirror_code : CodeTree
ip_mirror_code = swap_code Addresses (instr_and mirrored_ports (forward_code 0))

-- ---- Tee

abbrev pub tee_code : ℕ → CodeTree
tee_code outputs = to_all outputs

-- ---- Strip and EtherEncap

-- the tag of Ethernet is removed
abbrev pub untagging : InstrTree
untagging = destroy_tag (codes "L2")

abbrev pub strip_code : CodeTree
strip_code =
    instr_and (deallocate (cell FrameDestination)) (instr_and (deallocate (cell FrameSource)) (instr_and (deallocate (cell FrameType))
    (instr_and untagging (forward_code 0))))

-- where an Ethernet header before that of IP begins
abbrev pub frame_start : Addr
frame_start = record { tag = Some (codes "L3"); offset = negsuc 111 }

abbrev pub frame_tag : InstrTree
frame_tag = set_tag (codes "L2") frame_start

-- a new cell of a field, with a value
abbrev pub new_cell : Field → ℕ → List InstrTree
new_cell f n = allocate (cell f) ∷ assign (cell f) (constant n) ∷ []

abbrev pub ether_encap_code : ℕ → ℕ → ℕ → CodeTree
ether_encap_code kind source destination =
    instr_and frame_tag (code_before (new_cell FrameDestination destination)
    (code_before (new_cell FrameSource source) (code_before (new_cell FrameType kind) (forward_code 0))))

-- ---- IPFilter and IPClassifier

abbrev pub rule_code : Bool → CodeTree
rule_code allows = if allows then forward_code 0 else drop_code

abbrev pub rule_instr : RuleSeen → InstrTree
rule_instr r = branch (pattern_test r.pattern) (rule_code r.allows) no_code

-- one rule after another, and then all is dropped
abbrev pub ip_filter_code : List RuleSeen → CodeTree
ip_filter_code rules = code_before (map rule_instr rules) drop_code

-- the patterns of the outputs from this one on
abbrev pub pattern_instrs : ℕ → List (List Primitive) → List InstrTree
pattern_instrs port [] = []
pattern_instrs port (p ∷ ps) = guard_instr (pattern_test p, port) ∷ pattern_instrs (suc port) ps

abbrev pub ip_classifier_code : List (List Primitive) → CodeTree
ip_classifier_code patterns = code_before (pattern_instrs 0 patterns) drop_code
