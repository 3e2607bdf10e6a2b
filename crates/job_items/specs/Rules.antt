-- The rules of acceptance, a predicate for each, and the first item of a job that breaks any.
use Rattle.std.specs.Prelude.{ℕ, ℤ, ◌+◌, ◌+ℤ◌, pos, int_lt, Bool, true, false, not, ◌&&◌, ◌||◌, ◌==◌, nat_eq, nat_lt, nat_le, if◌then◌else◌, List, [], ◌∷◌, length, fold, flat_map, Option, Some, None, is_none, is_some, bytes_eq}
use Rattle.std.specs.List.{list_any}
use Rattle.std.specs.Ordering.{nat_cmp, int_eq}
use Rattle.std.specs.Cmp.Lexicographic.{slice_cmp}
use Rattle.std.specs.BTreeSet.{insert_key}
use Rattle.sefl_syntax.specs.declared.reference.Scope.{Scope}
use Rattle.sefl_syntax.specs.declared.reference.Scope.TheVariants.{Global, Local}
use Rattle.sefl_syntax.specs.declared.reference.Target.{Target}
use Rattle.sefl_syntax.specs.declared.reference.Target.TheVariants.{Header, Meta, Bound}
use Rattle.sefl_syntax.specs.declared.net.Side.{Side}
use Rattle.sefl_syntax.specs.declared.net.Side.TheVariants.{Inward, Outward}
use Rattle.sefl_syntax.specs.declared.job.RawField.{RawField}
use Rattle.sefl_syntax.specs.Trees.{InstrTree, each, forward, fork, JobTree}
use Rattle.job_items.specs.declared.rule.Which.{Which}
use Rattle.job_items.specs.declared.rule.Which.TheVariants as which
use Rattle.job_items.specs.declared.rule.Rule.{Rule}
use Rattle.job_items.specs.declared.rule.Rule.TheVariants as rule
use Rattle.job_items.specs.declared.rule.Breach.{Breach}
use Rattle.job_items.specs.declared.rule.Breach.TheVariants.{Breaks, Passes}
use Rattle.job_items.specs.Atoms.{Atom, instr_atoms, field_atoms, ask_atoms, cond_atoms}
use Rattle.job_items.specs.AtomRules.{width_of, is_mixed, is_too_wide, is_reversed, has_loose, meta_name, ranges_in}
use Rattle.sn_width.specs.Address.{is_address}
use Rattle.job_items.specs.Tags.{Tags, resolved}
use Rattle.job_items.specs.Items.{Item, node_item, port_item, instr_item, link_item, injection_item, tag_item, field_item, test_item, ask_item, job_items}
use Rattle.job_items.specs.declared.ports.Ports.{Ports}
use Rattle.job_items.specs.Nodes.{node_named, is_same_output, ports_of}

-- the nodes that links and the injection name

abbrev pub port_count : Side → Ports → ℕ
port_count Inward n = n.ins
port_count Outward n = n.outs

-- the node is there, and the port is not below its number of ports on that side
abbrev pub is_past : Option Ports → Side → ℕ → Bool
is_past None side port = false
is_past (Some n) side port = nat_le (port_count side n) port

-- what the fields of an injection hold

abbrev pub is_same_address : Option ℤ → Option ℤ → Bool
is_same_address (Some a) (Some b) = int_eq a b
is_same_address (Some a) None = false
is_same_address None b = false

abbrev pub is_same_scope : Scope → Scope → Bool
is_same_scope Global Global = true
is_same_scope Local Local = true
is_same_scope Global Local = false
is_same_scope Local Global = false

-- the field begins at the place of the reference
abbrev pub is_at : Tags → Target → Target → Bool
is_at tags (Header addr width) (Header own size) = is_same_address (resolved tags addr) (resolved tags own)
is_at tags (Meta scope name width) (Meta own_scope own_name size) = is_same_scope scope own_scope && bytes_eq name own_name
is_at tags (Header addr width) (Meta own_scope own_name size) = false
is_at tags (Header addr width) (Bound own size) = false
is_at tags (Meta scope name width) (Header own size) = false
is_at tags (Meta scope name width) (Bound own size) = false
is_at tags (Bound var width) own = false

-- the width of the first of these fields that begins there
abbrev pub injected_width : Tags → List RawField → Target → Option ℕ
injected_width tags [] target = None
injected_width tags (f ∷ fields) target =
    if is_at tags target f.target then Some (width_of f.target) else injected_width tags fields target

-- two runs of bits share one
abbrev pub do_meet : Option ℤ → ℕ → Option ℤ → ℕ → Bool
do_meet (Some a) width (Some b) size = int_lt a (b +ℤ pos size) && int_lt b (a +ℤ pos width)
do_meet (Some a) width None size = false
do_meet None width b size = false

-- two fields share a bit or a name
abbrev pub do_overlap : Tags → Target → Target → Bool
do_overlap tags (Header addr width) (Header own size) = do_meet (resolved tags addr) width (resolved tags own) size
do_overlap tags (Meta scope name width) (Meta own_scope own_name size) = bytes_eq name own_name
do_overlap tags (Header addr width) (Meta own_scope own_name size) = false
do_overlap tags (Header addr width) (Bound own size) = false
do_overlap tags (Meta scope name width) (Header own size) = false
do_overlap tags (Meta scope name width) (Bound own size) = false
do_overlap tags (Bound var width) own = false

-- what an item evaluates
abbrev pub item_atoms : Item → List Atom
item_atoms (instr_item place i) = instr_atoms i
item_atoms (field_item tags before f) = field_atoms f
item_atoms (test_item tags fields test) = cond_atoms test
item_atoms (ask_item ask) = ask_atoms ask
item_atoms (node_item nodes d) = []
item_atoms (port_item n ins outs p) = []
item_atoms (link_item used from to l) = []
item_atoms (injection_item n port) = []
item_atoms (tag_item tags line) = []

-- the rules, a predicate for each

-- an earlier node has the name
abbrev pub is_twice_node : Item → Bool
is_twice_node (node_item nodes d) = is_some (node_named nodes d.name)
is_twice_node _ = false

-- a link or the injection names no node of the job
abbrev pub names_no_node : Item → Bool
names_no_node (link_item used from to l) = is_none from || is_none to
names_no_node (injection_item n port) = is_none n
names_no_node _ = false

-- an instruction leaves by a port that its node has not
abbrev pub leaves_past : ℕ → InstrTree → Bool
leaves_past outs (forward port) = nat_le outs port
leaves_past outs (fork ports) = list_any (nat_le outs) ports
leaves_past outs _ = false

-- a port is not below the node's number of ports on that side
abbrev pub is_out_of_range : Item → Bool
is_out_of_range (port_item n ins outs p) = nat_le (port_count p.side n) p.port
is_out_of_range (instr_item place i) = leaves_past place.outs i
is_out_of_range (link_item used from to l) = is_past from Outward l.from_port || is_past to Inward l.to_port
is_out_of_range (injection_item n port) = is_past n Inward port
is_out_of_range _ = false

-- an earlier link leaves the same output port
abbrev pub is_second_link : Item → Bool
is_second_link (link_item used from to l) = list_any (is_same_output (l.from, l.from_port)) used
is_second_link _ = false

-- of two lists, that of the side
abbrev pub on_side : Side → List ℕ → List ℕ → List ℕ
on_side Inward ins outs = ins
on_side Outward ins outs = outs

-- the port already has code
abbrev pub is_second_code : Item → Bool
is_second_code (port_item n ins outs p) = list_any (nat_eq p.port) (on_side p.side ins outs)
is_second_code _ = false

abbrev pub differs_from : Option ℕ → ℕ → Bool
differs_from None width = false
differs_from (Some injected) width = not (injected == width)

-- a reference reads an injected field at another width
abbrev pub reads_at_other_width : Tags → List RawField → Atom → Bool
reads_at_other_width tags fields a = list_any (λ target. differs_from (injected_width tags fields target) (width_of target)) a.reads

abbrev pub tests_at_other_width : Item → Bool
tests_at_other_width (test_item tags fields test) = list_any (reads_at_other_width tags fields) (cond_atoms test)
tests_at_other_width _ = false

-- the references of an atom differ in width, or a test reads an injected field at another width
abbrev pub mixes_widths : Item → Bool
mixes_widths item = list_any is_mixed (item_atoms item) || tests_at_other_width item

-- a constant, an end of a range or an injected value exceeds the greatest value of its width
abbrev pub has_too_wide : Item → Bool
has_too_wide item = list_any is_too_wide (item_atoms item)

abbrev pub lacks_tag : Tags → Target → Bool
lacks_tag tags (Header addr width) = is_none (resolved tags addr)
lacks_tag tags (Meta scope name width) = false
lacks_tag tags (Bound var width) = false

abbrev pub reads_what_is_not_injected : Tags → List RawField → Atom → Bool
reads_what_is_not_injected tags fields a = list_any (λ target. is_none (injected_width tags fields target)) a.reads

-- a Bound has no For round it with that variable, an address of the injection names a tag that no earlier line makes,
-- or a test reads what is not injected
abbrev pub is_unbound : Item → Bool
is_unbound (instr_item place i) = list_any (has_loose place.vars) (instr_atoms i)
is_unbound (tag_item tags line) = is_none (resolved tags line.1)
is_unbound (field_item tags before f) = list_any (has_loose []) (field_atoms f) || lacks_tag tags f.target
is_unbound (test_item tags fields test) = list_any (reads_what_is_not_injected tags fields) (cond_atoms test)
is_unbound (ask_item ask) = list_any (has_loose []) (ask_atoms ask)
is_unbound _ = false

abbrev pub is_outward : Side → Bool
is_outward Inward = false
is_outward Outward = true

abbrev pub leaves : InstrTree → Bool
leaves (forward port) = true
leaves (fork ports) = true
leaves _ = false

-- Forward or Fork in an output port's code
abbrev pub leaves_outward : Item → Bool
leaves_outward (instr_item place i) = leaves i && is_outward place.side
leaves_outward _ = false

abbrev pub is_empty : List ℕ → Bool
is_empty [] = true
is_empty (port ∷ ports) = false

abbrev pub leaves_nowhere : InstrTree → Bool
leaves_nowhere (fork ports) = is_empty ports
leaves_nowhere _ = false

-- a Fork lists no port
abbrev pub is_empty_fork : Item → Bool
is_empty_fork (instr_item place i) = leaves_nowhere i
is_empty_fork _ = false

-- the first number of a range exceeds its second
abbrev pub has_reversed : Item → Bool
has_reversed item = list_any is_reversed (item_atoms item)

-- an injected field shares a bit or a name with an earlier one
abbrev pub overlaps : Item → Bool
overlaps (field_item tags before f) = list_any (λ own. do_overlap tags f.target own.target) before
overlaps _ = false

abbrev pub is_for : InstrTree → Bool
is_for (each var pattern body) = true
is_for _ = false

-- a For inside two others
abbrev pub is_third_for : Item → Bool
is_third_for (instr_item place i) = is_for i && nat_lt 1 (length place.vars)
is_third_for _ = false

abbrev pub is_outside : Option ℤ → Bool
is_outside None = false
is_outside (Some a) = not (is_address a)

abbrev pub begins_outside : Tags → Target → Bool
begins_outside tags (Header addr width) = is_outside (resolved tags addr)
begins_outside tags (Meta scope name width) = false
begins_outside tags (Bound var width) = false

-- an injected tag's or field's address is out of range
abbrev pub has_bad_address : Item → Bool
has_bad_address (tag_item tags line) = is_outside (resolved tags line.1)
has_bad_address (field_item tags before f) = begins_outside tags f.target
has_bad_address _ = false

-- what the items so far have; names and patterns stand here each once, ascending by bytes
pub record Counts : Type 0 where
  pub nodes : ℕ
  pub names : List (List ℕ)
  pub patterns : List (List ℕ)
  pub instructions : ℕ
  pub ranges : ℕ
  pub fields : ℕ
  pub tests : ℕ
  pub asks : ℕ

abbrev pub no_counts : Counts
no_counts = record { nodes = 0; names = []; patterns = []; instructions = 0; ranges = 0; fields = 0; tests = 0; asks = 0 }

abbrev pub names_in : List Atom → List (List ℕ)
names_in atoms = flat_map (λ a. flat_map meta_name a.reads) atoms

-- a set of texts with one more
abbrev pub with_text : List (List ℕ) → List ℕ → List (List ℕ)
with_text texts text = insert_key (slice_cmp nat_cmp) texts text

abbrev pub with_names : List (List ℕ) → List (List ℕ) → List (List ℕ)
with_names names more = fold with_text names more

abbrev pub with_atoms : Counts → List Atom → Counts
with_atoms c atoms = record c { names = with_names c.names (names_in atoms); ranges = c.ranges + ranges_in atoms }

abbrev pub with_instr : Counts → InstrTree → Counts
with_instr c (each var pattern body) = record c { instructions = c.instructions + 1; patterns = with_text c.patterns pattern }
with_instr c i = record c { instructions = c.instructions + 1 }

abbrev pub with_kind : Counts → Item → Counts
with_kind c (node_item nodes d) = record c { nodes = c.nodes + 1 }
with_kind c (instr_item place i) = with_instr c i
with_kind c (field_item tags before f) = record c { fields = c.fields + 1 }
with_kind c (test_item tags fields test) = record c { tests = c.tests + 1 }
with_kind c (ask_item ask) = record c { asks = c.asks + 1 }
with_kind c _ = c

-- the counts with one more item
abbrev pub counted : Counts → Item → Counts
counted c item = with_atoms (with_kind c item) (item_atoms item)

abbrev pub count_of : Which → Counts → ℕ
count_of which.Nodes c = c.nodes
count_of which.Names c = length c.names
count_of which.Patterns c = length c.patterns
count_of which.Instructions c = c.instructions
count_of which.Ranges c = c.ranges
count_of which.Fields c = c.fields
count_of which.Tests c = c.tests
count_of which.Asks c = c.asks
count_of which.Ports c = 0
count_of which.Copies c = 0

abbrev pub wider_side : Ports → ℕ
wider_side n = if nat_lt 1024 n.ins then n.ins else n.outs

-- the ports of a node on the side that has too many, inputs before outputs
abbrev pub ports_in : Item → ℕ
ports_in (node_item nodes d) = wider_side (ports_of d.body)
ports_in _ = 0

abbrev pub copies_of : InstrTree → ℕ
copies_of (fork ports) = length ports
copies_of _ = 0

abbrev pub copies_in : Item → ℕ
copies_in (instr_item place i) = copies_of i
copies_in _ = 0

-- the table

-- the rules before that on limits, in their order
abbrev pub early_rows : Item → List (Bool × Breach)
early_rows item =
    (is_twice_node item, Breaks rule.TwiceNode)
    ∷ (names_no_node item, Breaks rule.NoNode)
    ∷ (is_out_of_range item, Breaks rule.PortRange)
    ∷ (is_second_link item, Breaks rule.TwoLinks)
    ∷ (is_second_code item, Breaks rule.TwiceCode)
    ∷ (mixes_widths item, Breaks rule.WidthMismatch)
    ∷ (has_too_wide item, Breaks rule.TooWide)
    ∷ (is_unbound item, Breaks rule.Unbound)
    ∷ (leaves_outward item, Breaks rule.OutForward)
    ∷ (is_empty_fork item, Breaks rule.EmptyFork)
    ∷ (has_reversed item, Breaks rule.BadRanges)
    ∷ (overlaps item, Breaks rule.Overlap)
    ∷ []

-- the limits, in their order; the counts are those with this item
abbrev pub limit_rows : Counts → ℕ → ℕ → List (Bool × Breach)
limit_rows c ports copies =
    (nat_lt 10000 c.nodes, Passes which.Nodes)
    ∷ (nat_lt 1024 ports, Breaks (rule.Limit which.Ports ports))
    ∷ (nat_lt 1024 (length c.names), Passes which.Names)
    ∷ (nat_lt 256 (length c.patterns), Passes which.Patterns)
    ∷ (nat_lt 1000000 c.instructions, Passes which.Instructions)
    ∷ (nat_lt 4000000 c.ranges, Passes which.Ranges)
    ∷ (nat_lt 1024 copies, Breaks (rule.Limit which.Copies copies))
    ∷ (nat_lt 256 c.fields, Passes which.Fields)
    ∷ (nat_lt 256 c.tests, Passes which.Tests)
    ∷ (nat_lt 256 c.asks, Passes which.Asks)
    ∷ []

-- the rules behind it
abbrev pub late_rows : Item → List (Bool × Breach)
late_rows item = (is_third_for item, Breaks rule.NestedFor) ∷ (has_bad_address item, Breaks rule.BadAddress) ∷ []

-- the first row that holds
abbrev pub first_breach : List (Bool × Breach) → Option Breach
first_breach [] = None
first_breach (row ∷ rows) = if row.0 then Some row.1 else first_breach rows

abbrev pub or_else : Option Breach → Option Breach → Option Breach
or_else None other = other
or_else (Some b) other = Some b

abbrev pub early_breach : Item → Option Breach
early_breach item = first_breach (early_rows item)

abbrev pub limit_breach : Counts → Item → Option Breach
limit_breach c item = first_breach (limit_rows c (ports_in item) (copies_in item))

abbrev pub late_breach : Item → Option Breach
late_breach item = first_breach (late_rows item)

-- the first of the rules and limits up to the last limit
abbrev pub breach_to_limits : Counts → Item → Option Breach
breach_to_limits c item = or_else (early_breach item) (limit_breach c item)

-- the first rule of the table that the item breaks
abbrev pub breach : Counts → Item → Option Breach
breach c item = or_else (breach_to_limits c item) (late_breach item)

-- a job up to its first item that breaks a rule, or to its end
pub data Outcome : Type 0 where
  went : ℕ → Counts → Outcome
  stopped : ℕ → Breach → Outcome

abbrev pub stopped_or : ℕ → Option Breach → Outcome → Outcome
stopped_or site None rest = rest
stopped_or site (Some b) rest = stopped site b

-- the items from this site on, behind items with these counts
abbrev pub outcome : ℕ → Counts → List Item → Outcome
outcome site c [] = went site c
outcome site c (item ∷ items) =
    stopped_or site (breach (counted c item) item) (outcome (site + 1) (counted c item) items)

-- a limit that is passed is told with the count of the whole job
abbrev pub told : Counts → Breach → Rule
told totals (Breaks r) = r
told totals (Passes w) = rule.Limit w (count_of w totals)

abbrev pub refusal_of : Counts → Outcome → Option (ℕ × Rule)
refusal_of totals (went site c) = None
refusal_of totals (stopped site b) = Some (site, told totals b)

-- the site of the first item that breaks a rule, and the first rule that it breaks
abbrev pub refusal : JobTree → Option (ℕ × Rule)
refusal j = refusal_of (fold counted no_counts (job_items j)) (outcome 0 no_counts (job_items j))
