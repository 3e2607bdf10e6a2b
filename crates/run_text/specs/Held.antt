-- What a packet carries, in the lists that a program holds.
use Rattle.std.specs.Prelude.{ℤ, List, Option}
use Rattle.std.specs.declared.alloc.Global.{Global}
use Rattle.std.specs.declared.vec.Vec.{Vec}
use Rattle.sn_width.specs.declared.ids.NodeId.{NodeId}
use Rattle.sn_width.specs.declared.ids.NameId.{NameId}
use Rattle.cell_stacks.specs.declared.cell.Cell.{Cell}

abbrev pub held_head : {V : Type 0} → ℤ × Vec (Cell V) Global → ℤ × List (Cell V)
held_head p = (p.0, p.1.items)

abbrev pub held_meta : {V : Type 0} → Option NodeId × NameId × Vec (Cell V) Global → Option NodeId × NameId × List (Cell V)
held_meta p = (p.0, p.1, p.2.items)
