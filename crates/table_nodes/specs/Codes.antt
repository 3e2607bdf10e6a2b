-- The code of a node while it is written.
use Rattle.std.specs.Prelude.{ℕ, List, [], ◌∷◌, map}
use Rattle.std.specs.declared.alloc.Global.{Global}
use Rattle.std.specs.declared.vec.Vec.{Vec}
use Rattle.sefl_syntax.specs.Trees.{InstrTree, CodeTree, instr_and}
use Rattle.table_nodes.specs.TableNodes.{Set}

-- instructions, and then code
abbrev pub code_before : List InstrTree → CodeTree → CodeTree
code_before [] last = last
code_before (i ∷ is) last = instr_and i (code_before is last)

abbrev pub lists : List (Vec (ℕ × ℕ) Global) → List Set
lists sets = map (λ set. set.items) sets
