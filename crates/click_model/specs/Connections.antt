-- The connections of a configuration.
use Rattle.std.specs.Prelude.{ℕ, Bool, true, false, not, bytes_eq, nat_eq, nat_lt, ◌==◌, ◌||◌, ◌&&◌, if◌then◌else◌, List, [], ◌∷◌, ◌++◌, Option, None, Some}
use Rattle.std.specs.List.{list_any}
use Rattle.std.specs.Map.{lookup}
use Rattle.std.specs.declared.cmp.Ordering.{Ordering}
use Rattle.std.specs.Ordering.{nat_cmp, ordering_then}
use Rattle.std.specs.Cmp.Lexicographic.{slice_cmp}
use Rattle.std.specs.BTreeSet.{insert_key}
use Rattle.sefl_syntax.specs.declared.net.Link.{Link}
use Rattle.click_text.specs.Items.{ItemSeen}
use Rattle.click_model.specs.declared.flaw.Wrong.{Wrong}
use Rattle.click_model.specs.declared.flaw.Wrong.TheVariants.{PortClash, NoElement}
use Rattle.click_model.specs.declared.flaw.Flaw.{Flaw}
use Rattle.click_model.specs.declared.declare.Known.{Known}
use Rattle.click_model.specs.declared.connect.Connected.{Connected}
use Rattle.click_model.specs.Faults.{noted}

-- an output: the element's name and the port
abbrev pub Output : Type 0
Output = List ℕ × ℕ

abbrev pub is_output : Output → Output → Bool
is_output a b = bytes_eq a.0 b.0 && nat_eq a.1 b.1

abbrev pub output_cmp : Output → Output → Ordering
output_cmp a b = ordering_then (slice_cmp nat_cmp a.0 b.0) (nat_cmp a.1 b.1)

-- what was connected so far: the outputs that connections leave by, ascending, the connections, and the flaw that is told
pub record ConnectedSeen : Type 0 where
  pub used : List Output
  pub links : List Link
  pub flaw : Option Flaw

abbrev pub seen_connected : Connected → ConnectedSeen
seen_connected c = record { used = c.used.keys; links = c.links.items; flaw = c.flaw }

-- the item behind, if a connection leads to it
abbrev pub joined_to : List ItemSeen → Option ItemSeen
joined_to [] = None
joined_to (i ∷ is) = if i.joined then Some i else None

-- a badly declared element may have any output
abbrev pub may_leave_by : Option ℕ → ℕ → Bool
may_leave_by None port = true
may_leave_by (Some most) port = nat_lt port most

-- one that is declared nowhere may, too
abbrev pub may_leave : Option Known → ℕ → Bool
may_leave None port = true
may_leave (Some known) port = may_leave_by known.most port

-- an input other than 0, an output that the element has not, or one that an earlier connection uses
abbrev pub clashes : Option Known → List Output → Output → ℕ → Bool
clashes known used output input = not (input == 0) || (not (may_leave known output.1) || list_any (is_output output) used)

-- the lowest number first
abbrev pub use_wrong : Bool → Option Known → Option Wrong
use_wrong true known = Some PortClash
use_wrong false None = Some NoElement
use_wrong false (Some first) = None

abbrev pub link_of : Output → ItemSeen → Link
link_of output next = record { from = output.0; from_port = output.1; to = next.name; to_port = next.input }

-- an item, and the one that a connection leads to from it, if there is one
abbrev pub with_use : ConnectedSeen → ℕ → Output → Option Known → Option ItemSeen → ConnectedSeen
with_use c line output known None = record c { flaw = noted c.flaw line (use_wrong false known) }
with_use c line output known (Some next) = record {
  used = insert_key output_cmp c.used output;
  links = c.links ++ link_of output next ∷ [];
  flaw = noted c.flaw line (use_wrong (clashes known c.used output next.input) known);
}

module _ (names : List (List ℕ × Known)) where
  abbrev pub connected : ConnectedSeen → ItemSeen → Option ItemSeen → ConnectedSeen
  connected c i next = with_use c i.line (i.name, i.output) (lookup (bytes_eq i.name) names) next

  abbrev pub connected_from : ConnectedSeen → List ItemSeen → ConnectedSeen
  connected_from c [] = c
  connected_from c (i ∷ is) = connected_from (connected c i (joined_to is)) is

abbrev pub nothing_connected : Option Flaw → ConnectedSeen
nothing_connected flaw = record { used = []; links = []; flaw = flaw }
