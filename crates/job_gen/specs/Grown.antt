-- The job that grows from a seed.
use Rattle.std.specs.Prelude.{ℕ, zero, suc, ◌+◌, ◌*◌, nat_lt, List, [], ◌∷◌, ◌++◌, map, None, Some, codes, pos, if◌then◌else◌}
use Rattle.std.specs.Fmt.{decimal}
use Rattle.std.specs.List.{flat_map}
use Rattle.sn_width.specs.declared.rel.Rel.TheVariants.{Le, Lt, Ge}
use Rattle.sefl_syntax.specs.declared.expr.Sign.TheVariants.{Minus}
use Rattle.sefl_syntax.specs.declared.job.RawField.{RawField}
use Rattle.sefl_syntax.specs.declared.net.Link.{Link}
use Rattle.sefl_syntax.specs.declared.net.Side.TheVariants.{Inward, Outward}
use Rattle.sefl_syntax.specs.declared.reference.Target.{Target}
use Rattle.sefl_syntax.specs.declared.reference.Target.TheVariants.{Header}
use Rattle.sefl_syntax.specs.Trees.{constant, reading, sum, no_summands, summand, CondTree, compare, InstrTree, assign, constrain, fail, branch, forward, CodeTree, no_code, instr_and, PortTree, NodeTree, code, DeclTree, InjectionTree, JobTree}
use Rattle.job_gen.specs.Splits.{split_of}

-- a field of the IPv4 header (RFC 791)
abbrev pub header : ℕ → ℕ → Target
header offset width = Header (record { tag = Some (codes "L3"); offset = pos offset }) width

abbrev pub time_to_live : Target
time_to_live = header 64 8

abbrev pub destination : Target
destination = header 128 32

abbrev pub alone : InstrTree → CodeTree
alone i = instr_and i no_code

abbrev pub is_below : ℕ → CondTree
is_below cut = compare Lt (reading destination) (constant cut)

abbrev pub is_from : ℕ → CondTree
is_from cut = compare Ge (reading destination) (constant cut)

-- a packet with a time to live of at most 1 dies
abbrev pub dying : InstrTree
dying = branch (compare Le (reading time_to_live) (constant 1)) (alone (fail (codes "ttl"))) no_code

-- the time to live goes down by 1
abbrev pub counting : InstrTree
counting = assign time_to_live (sum (reading time_to_live) (summand Minus (constant 1) no_summands))

-- addresses below the cut leave by port 0, the others by port 1
abbrev pub choosing : ℕ → InstrTree
choosing cut = branch (is_below cut) (alone (forward 0)) (alone (forward 1))

abbrev pub input : ℕ → PortTree
input cut = record { side = Inward; port = 0; code = instr_and dying (instr_and counting (alone (choosing cut))) }

abbrev pub output : ℕ → CondTree → PortTree
output port test = record { side = Outward; port = port; code = alone (constrain test) }

abbrev pub router : ℕ → NodeTree
router cut =
    record { ins = 1; outs = 2; codes = input cut ∷ output 0 (is_below cut) ∷ output 1 (is_from cut) ∷ [] }

abbrev pub box_name : ℕ → List ℕ
box_name box = codes "n" ++ decimal box

abbrev pub box_of : ℕ → ℕ → DeclTree
box_of seed box = record { name = box_name box; body = code (router (split_of seed box).cut) }

-- this many numbers from this one on
abbrev pub numbers_from : ℕ → ℕ → List ℕ
numbers_from first zero = []
numbers_from first (suc n) = first ∷ numbers_from (suc first) n

-- a link to the box, where it is one of this many
abbrev pub link_to : ℕ → ℕ → ℕ → ℕ → List Link
link_to boxes box port child =
    if nat_lt child boxes
    then record { from = box_name box; from_port = port; to = box_name child; to_port = 0 } ∷ []
    else []

abbrev pub links_of : ℕ → ℕ → List Link
links_of boxes box = link_to boxes box 0 (2 * box + 1) ++ link_to boxes box 1 (2 * box + 2)

-- a packet of any time to live and destination comes into the first box
abbrev pub unknown : Target → RawField
unknown target = record { target = target; value = None }

abbrev pub injection : InjectionTree
injection = record {
  node = box_name 0;
  port = 0;
  tags = (codes "L3", record { tag = None; offset = pos 112 }) ∷ [];
  fields = unknown time_to_live ∷ unknown destination ∷ [];
  tests = [];
}

-- the job of this many boxes
abbrev pub grown : ℕ → ℕ → JobTree
grown seed boxes = record {
  net = record {
    nodes = map (box_of seed) (numbers_from 0 boxes);
    links = flat_map (links_of boxes) (numbers_from 0 boxes);
  };
  injection = injection;
  asks = [];
}
