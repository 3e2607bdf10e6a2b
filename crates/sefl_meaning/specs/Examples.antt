-- Small nets, what is injected into them, and how their packets walk.
use Rattle.std.specs.Prelude.{ℕ, suc, List, [], ◌∷◌, Option, Some, None, pos, codes}
use Rattle.sn_width.specs.declared.rel.Rel.TheVariants.{Eq, Le}
use Rattle.sn_width.specs.declared.ids.NodeId.{NodeId}
use Rattle.sn_width.specs.declared.ids.NameId.{NameId}
use Rattle.sefl_syntax.specs.declared.reference.Target.{Target}
use Rattle.sefl_syntax.specs.declared.reference.Target.TheVariants.{Header, Meta}
use Rattle.sefl_syntax.specs.declared.reference.Scope.{Scope}
use Rattle.sefl_syntax.specs.declared.reference.Scope.TheVariants.{Global, Local}
use Rattle.sefl_syntax.specs.declared.net.Side.{Side}
use Rattle.sefl_syntax.specs.declared.net.Side.TheVariants.{Inward, Outward}
use Rattle.sefl_syntax.specs.declared.net.Link.{Link}
use Rattle.sefl_syntax.specs.declared.job.RawField.{RawField}
use Rattle.sefl_syntax.specs.Trees.{constant, reading, compare, CodeTree, no_code, instr_and, branch, fail, forward, fork, each, allocate, deallocate, assign, assign_any, constrain, PortTree, code, DeclTree}
use Rattle.cell_stacks.specs.declared.cell.Cell.{Cell}
use Rattle.metadata_scopes.specs.Scopes.{Metadata}
use Rattle.sefl_meaning.specs.declared.walk.Decision.{Decision}
use Rattle.sefl_meaning.specs.declared.walk.Decision.TheVariants.{Copy}
use Rattle.sefl_meaning.specs.declared.walk.Place.{Place}
use Rattle.sefl_meaning.specs.declared.walk.End.{End}
use Rattle.sefl_meaning.specs.declared.walk.End.TheVariants.{Stopped}
use Rattle.job_names.specs.Names.{Names}
use Rattle.sefl_meaning.specs.Network.{Network, Entry}
use Rattle.sefl_meaning.specs.Carried.{Carried, nothing}
use Rattle.sefl_meaning.specs.Runs.{starting}
use Rattle.sefl_meaning.specs.Walks.{Passage, Trail}

-- ---- words for all of them

abbrev pub box : List ℕ → ℕ → ℕ → List PortTree → DeclTree
box name ins outs codes = record { name = name; body = code (record { ins = ins; outs = outs; codes = codes }) }

-- the metadata names, the tag names, and the patterns with the sites of their Fors
abbrev pub named : List (List ℕ) → List (List ℕ) → List (List ℕ × ℕ) → Names
named metas tags patterns = record { metas = metas; tags = tags; patterns = patterns }

abbrev pub in_port : ℕ → CodeTree → PortTree
in_port port body = record { side = Inward; port = port; code = body }

abbrev pub link : List ℕ → ℕ → List ℕ → ℕ → Link
link from from_port to to_port = record { from = from; from_port = from_port; to = to; to_port = to_port }

abbrev pub place : ℕ → Side → ℕ → Place
place node side port = record { node = record { 0 = node }; side = side; port = port }

abbrev pub walk : List Decision → List Place → End → Carried ℕ → Trail
walk decisions places end' s = record { decisions = decisions; places = places; end' = end'; state = s }

abbrev pub cell : ℕ → ℕ → List (Cell ℕ)
cell width n = record { width = width; value = Some n } ∷ []

abbrev pub metadata : Metadata ℕ → Carried ℕ
metadata scopes = record { layers = record { tags = []; heads = [] }; scopes = scopes }

-- one cell of 8 bits of a global, by its number
abbrev pub global : ℕ → ℕ → (Option NodeId × NameId) × List (Cell ℕ)
global name n = ((None, record { 0 = name }), cell 8 n)

abbrev pub globals_from : ℕ → List ℕ → Metadata ℕ
globals_from name [] = []
globals_from name (n ∷ ns) = global name n ∷ globals_from (suc name) ns

-- globals with these values
abbrev pub globals : List ℕ → Metadata ℕ
globals ns = globals_from 0 ns

-- 8 bits of metadata
abbrev pub meta : Scope → List ℕ → Target
meta scope name = Meta scope name 8

-- at input port 0 of the first node, without tags and conditions
abbrev pub injection : List ℕ → List RawField → Entry
injection node fields =
    record { own = record { node = node; port = 0; tags = []; fields = fields; tests = [] }; node = record { 0 = 0 }; most_choices = 4096 }

-- ---- a box that drops a packet whose time to live is 1 or less

abbrev pub ttl : Target
ttl = Header (record { tag = Some (codes "L3"); offset = pos 64 }) 8

abbrev pub ttl_code : CodeTree
ttl_code =
    instr_and (branch (compare Le (reading ttl) (constant 1)) (instr_and (fail (codes "dead")) no_code)
    (instr_and (forward 0) no_code)) no_code

abbrev pub ttl_net : Network
ttl_net = record {
  own = record { nodes = box (codes "r") 1 1 (in_port 0 ttl_code ∷ []) ∷ []; links = [] };
  names = named [] (codes "L3" ∷ []) [];
  found = [];
}

abbrev pub ttl_injection : Entry
ttl_injection = record {
  own = record {
    node = codes "r";
    port = 0;
    tags = (codes "L3", record { tag = None; offset = pos 112 }) ∷ [];
    fields = record { target = ttl; value = None } ∷ [];
    tests = [];
  };
  node = record { 0 = 0 };
  most_choices = 4096;
}

abbrev pub ttl_of : ℕ → Carried ℕ
ttl_of n = record { layers = record { tags = (0, pos 112 ∷ []) ∷ []; heads = (pos 176, cell 8 n) ∷ [] }; scopes = [] }

-- ---- a fork with a port listed twice: port 0 has no link, port 1 leads to a box without code

abbrev pub fork_net : Network
fork_net = record {
  own = record {
    nodes = box (codes "a") 1 2 (in_port 0 (instr_and (fork (0 ∷ 1 ∷ 1 ∷ [])) no_code) ∷ []) ∷ box (codes "b") 1 0 [] ∷ [];
    links = link (codes "a") 1 (codes "b") 0 ∷ [];
  };
  names = named [] [] [];
  found = [];
}

abbrev pub fork_walk : ℕ → Trail
fork_walk number = walk (Copy number ∷ []) (place 0 Inward 0 ∷ place 0 Outward 1 ∷ place 1 Inward 0 ∷ []) Stopped nothing

-- ---- two boxes in a ring

abbrev pub onward_code : CodeTree
onward_code = instr_and (forward 0) no_code

abbrev pub onward : List PortTree
onward = in_port 0 onward_code ∷ []

abbrev pub ring_net : Network
ring_net = record {
  own = record {
    nodes = box (codes "a") 1 1 onward ∷ box (codes "b") 1 1 onward ∷ [];
    links = link (codes "a") 0 (codes "b") 0 ∷ link (codes "b") 0 (codes "a") 0 ∷ [];
  };
  names = named [] [] [];
  found = [];
}

-- ---- a For whose body removes the metadata of its second iteration

abbrev pub for_net : Network
for_net = record {
  own = record {
    nodes = box (codes "a") 1 0 (in_port 0
        (instr_and (each (codes "o") (codes "^opt") (instr_and (deallocate (meta Global (codes "opt2"))) no_code)) no_code) ∷ []) ∷ [];
    links = [];
  };
  names = named (codes "opt1" ∷ codes "opt2" ∷ codes "xopt" ∷ []) [] ((codes "^opt", 2) ∷ []);
  found = (record { 0 = 0 } ∷ record { 0 = 1 } ∷ []) ∷ [];
}

abbrev pub given : List ℕ → ℕ → RawField
given name n = record { target = meta Global name; value = Some n }

abbrev pub for_injection : Entry
for_injection = injection (codes "a") (given (codes "opt1") 1 ∷ given (codes "opt2") 2 ∷ given (codes "xopt") 3 ∷ [])

-- ---- a local of one box, which another box cannot read: a sets it, b forwards or reads it, and a tests it

abbrev pub local_code : CodeTree
local_code =
    instr_and (allocate (meta Local (codes "n"))) (instr_and (assign (meta Local (codes "n")) (constant 5))
    (instr_and (forward 0) no_code))

abbrev pub local_test : CodeTree
local_test = instr_and (constrain (compare Eq (reading (meta Local (codes "n"))) (constant 5))) no_code

abbrev pub local_net : CodeTree → Network
local_net at_b = record {
  own = record {
    nodes = box (codes "a") 2 1 (in_port 0 local_code ∷ in_port 1 local_test ∷ []) ∷ box (codes "b") 1 1 (in_port 0 at_b ∷ []) ∷ [];
    links = link (codes "a") 0 (codes "b") 0 ∷ link (codes "b") 0 (codes "a") 1 ∷ [];
  };
  names = named (codes "n" ∷ []) [] [];
  found = [];
}

abbrev pub local_of_a : Carried ℕ
local_of_a = metadata (((Some (record { 0 = 0 }), record { 0 = 0 }), cell 8 5) ∷ [])

-- ---- a given and an unknown field, and two choices, the second past the end of the list

abbrev pub any_net : Network
any_net = record {
  own = record {
    nodes = box (codes "a") 1 0 (in_port 0
        (instr_and (assign_any (meta Global (codes "x"))) (instr_and (allocate (meta Global (codes "y")))
        (instr_and (assign_any (meta Global (codes "y"))) no_code))) ∷ []) ∷ [];
    links = [];
  };
  names = named (codes "x" ∷ codes "y" ∷ codes "z" ∷ []) [] [];
  found = [];
}

abbrev pub any_injection : Entry
any_injection = injection (codes "a") (given (codes "z") 9 ∷ record { target = meta Global (codes "x"); value = None } ∷ [])

abbrev pub any_start : Carried ℕ
any_start = metadata (global 0 7 ∷ global 2 9 ∷ [])

abbrev pub any_end : Carried ℕ
any_end = metadata (global 0 44 ∷ global 1 0 ∷ global 2 9 ∷ [])

-- three instructions begin, and two choices of 8 bits are made
abbrev pub any_passage : Passage
any_passage = record {
  decisions = [];
  arrivals = (place 0 Inward 0, starting any_start) ∷ [];
  end' = Stopped;
  progress = record { state = any_end; choices = 8 ∷ 8 ∷ []; begun = 3 };
}
