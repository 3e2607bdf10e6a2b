-- The nodes that table files stand for, in three styles, and where they send an address.
use Rattle.std.specs.Prelude.{ℕ, ◌+◌, ◌-◌, ◌^◌, zero, suc, ◌≡◌, ◌==◌, ◌<◌, if◌then◌else◌, ◌||◌, Bool, false, List, [], ◌∷◌, length, Option, None, Some, is_none, codes}
use Rattle.sn_width.specs.declared.rel.Rel.TheVariants.{Eq}
use Rattle.sefl_syntax.specs.declared.reference.Target.{Target}
use Rattle.sefl_syntax.specs.declared.net.Side.TheVariants.{Inward, Outward}
use Rattle.sefl_syntax.specs.declared.net.Style.{Style}
use Rattle.sefl_syntax.specs.declared.net.Style.TheVariants.{Chain, Grouped, Egress}
use Rattle.sefl_syntax.specs.declared.net.TableKind.{TableKind}
use Rattle.sefl_syntax.specs.declared.net.TableKind.TheVariants.{Mac, Fib}
use Rattle.sn_ranges.specs.Ranges.{IsCanonical}
use Rattle.sefl_syntax.specs.Trees.{constant, reading, CondTree, always, compare, member, negation, InstrTree, constrain, fail, branch, forward, fork, CodeTree, no_code, instr_and, PortTree, NodeTree}
use Rattle.table_nodes.specs.declared.field.Field.{Field}
use Rattle.table_nodes.specs.declared.field.Field.TheVariants.{FrameDestination, DestinationAddress}
use Rattle.table_nodes.specs.Exits.{holds, lies_in}
use Rattle.table_nodes.specs.Fields.{cell}

-- the destination of an Ethernet frame, and of an IPv4 packet
abbrev pub mac_destination : Target
mac_destination = cell FrameDestination

abbrev pub fib_destination : Target
fib_destination = cell DestinationAddress

-- a set of numbers, as its ranges
abbrev pub Set : Type 0
Set = List (ℕ × ℕ)

-- this many ports from this one on
abbrev pub ports_from : ℕ → ℕ → List ℕ
ports_from port zero = []
ports_from port (suc n) = port ∷ ports_from (suc port) n

-- ---- code

-- a test, and the port to which what passes it goes
abbrev pub Guard : Type 0
Guard = CondTree × ℕ

abbrev pub guard_instr : Guard → InstrTree
guard_instr g = branch g.0 (instr_and (forward g.1) no_code) no_code

-- one test after another, and then the last code
abbrev pub guarded : List Guard → CodeTree → CodeTree
guarded [] last = last
guarded (g ∷ gs) last = instr_and (guard_instr g) (guarded gs last)

abbrev pub alone : InstrTree → CodeTree
alone i = instr_and i no_code

abbrev pub in_code : CodeTree → PortTree
in_code body = record { side = Inward; port = 0; code = body }

module _ (d : Target) where
  -- a test for each set that is not empty; the sets are those of the ports from this one on
  abbrev pub set_guards : ℕ → List Set → List Guard
  set_guards port [] = []
  set_guards port ([] ∷ sets) = set_guards (suc port) sets
  set_guards port ((r ∷ rs) ∷ sets) = (member (reading d) (r ∷ rs), port) ∷ set_guards (suc port) sets

  -- an output port that lets a set pass
  abbrev pub set_test : Set → CondTree
  set_test [] = negation always
  set_test (r ∷ rs) = member (reading d) (r ∷ rs)

  abbrev pub out_code : ℕ → Set → PortTree
  out_code port set = record { side = Outward; port = port; code = alone (constrain (set_test set)) }

  abbrev pub out_codes : ℕ → List Set → List PortTree
  out_codes port [] = []
  out_codes port (set ∷ sets) = out_code port set ∷ out_codes (suc port) sets

-- an address, how many of its bits count, and a port
abbrev pub Row : Type 0
Row = ℕ × ℕ × ℕ

-- the test of a row
abbrev pub row_guard : TableKind → Row → Guard
row_guard Mac row = (compare Eq (reading mac_destination) (constant row.0), row.2)
row_guard Fib row = (member (reading fib_destination) ((row.0, row.0 + 2 ^ (32 - row.1) - 1) ∷ []), row.2)

abbrev pub node_with : ℕ → List PortTree → NodeTree
node_with ports codes = record { ins = 1; outs = ports; codes = codes }

abbrev pub to_all : ℕ → CodeTree
to_all ports = alone (fork (ports_from 0 ports))

abbrev pub no_route : CodeTree
no_route = alone (fail (codes "no route"))

-- what an address does that no row has
abbrev pub last_of : TableKind → ℕ → CodeTree
last_of Mac ports = to_all ports
last_of Fib ports = no_route

abbrev pub rest_of : TableKind → ℕ → List ℕ
rest_of Mac ports = ports_from 0 ports
rest_of Fib ports = []

-- the field that has the addresses of a table
abbrev pub address_field : TableKind → Field
address_field Mac = FrameDestination
address_field Fib = DestinationAddress

abbrev pub destination : TableKind → Target
destination kind = cell (address_field kind)

-- ---- what tables say

-- the port of the first test that the address passes
abbrev pub first_held : ℕ → List Guard → Option ℕ
first_held a [] = None
first_held a (g ∷ gs) = if holds a g.0 then Some g.1 else first_held a gs

-- the port, or those where there is none
abbrev pub port_or : List ℕ → Option ℕ → List ℕ
port_or rest None = rest
port_or rest (Some port) = port ∷ []

abbrev pub is_port : Option ℕ → ℕ → Bool
is_port None port = false
is_port (Some p) port = p == port

-- what style egress lets out at a port
abbrev pub lets : TableKind → Option ℕ → ℕ → Bool
lets Mac found port = is_none found || is_port found port
lets Fib found port = is_port found port

-- how many bits an address has
abbrev pub bits_of : TableKind → ℕ
bits_of Mac = 48
bits_of Fib = 32

-- each set, of the ports from this one on, is the least list of ranges of the addresses that pass the test for its port
abbrev pub SetsFor : TableKind → (ℕ → ℕ → Bool) → ℕ → List Set → Type 0
SetsFor kind test port [] = Unit {0}
SetsFor kind test port (set ∷ sets) =
    IsCanonical (bits_of kind) set × ((a : ℕ) → a < 2 ^ bits_of kind → lies_in a set ≡ test a port) × SetsFor kind test (suc port) sets

-- ---- a table's node in each style; the table is how many ports it has, its port for each address, and the guards of its rows

abbrev pub IsNode : TableKind → ℕ → (ℕ → Option ℕ) → List Guard → Style → NodeTree → Type 0
IsNode kind ports f rows Chain node = node ≡ node_with ports (in_code (guarded rows (last_of kind ports)) ∷ [])
IsNode kind ports f rows Grouped node =
    (sets : List Set) × (length sets ≡ ports) × SetsFor kind (λ a. is_port (f a)) 0 sets
    × (node ≡ node_with ports (in_code (guarded (set_guards (destination kind) 0 sets) (last_of kind ports)) ∷ []))
IsNode kind ports f rows Egress node =
    (sets : List Set) × (length sets ≡ ports) × SetsFor kind (λ a. lets kind (f a)) 0 sets
    × (node ≡ node_with ports (in_code (to_all ports) ∷ out_codes (destination kind) 0 sets))

-- the guards send each address to its port
abbrev pub Sends : TableKind → (ℕ → Option ℕ) → List Guard → Type 0
Sends kind f rows = (a : ℕ) → a < 2 ^ bits_of kind → first_held a rows ≡ f a

-- in style chain the tests of the rows do so; the sets of the other styles do so by themselves
abbrev pub RowsSend : Style → TableKind → (ℕ → Option ℕ) → List Guard → Type 0
RowsSend Chain kind f rows = Sends kind f rows
RowsSend Grouped kind f rows = Unit {0}
RowsSend Egress kind f rows = Unit {0}

-- the ports of the table
abbrev pub InRange : ℕ → (ℕ → Option ℕ) → Type 0
InRange ports f = (a port : ℕ) → f a ≡ Some port → port < ports
