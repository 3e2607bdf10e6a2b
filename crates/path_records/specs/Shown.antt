-- What the fields of a record are seen as.
use Rattle.std.specs.Prelude.{ℤ, List, map, Option}
use Rattle.std.specs.declared.alloc.Global.{Global}
use Rattle.std.specs.declared.vec.Vec.{Vec}
use Rattle.sn_width.specs.declared.ids.NodeId.{NodeId}
use Rattle.sn_width.specs.declared.ids.NameId.{NameId}
use Rattle.lin_term.specs.Terms.{LinearTerm}
use Rattle.cell_stacks.specs.declared.cell.Cell.{Cell}
use Rattle.sefl_meaning.specs.Fields as meaning
use Rattle.path_records.specs.declared.records.Fields.{Fields}

-- an address with its cells
abbrev pub held_head : ℤ × Vec (Cell LinearTerm) Global → ℤ × List (Cell LinearTerm)
held_head head = (head.0, head.1.items)

-- an owner and a name with their cells
abbrev pub held_meta : Option NodeId × NameId × Vec (Cell LinearTerm) Global → Option NodeId × NameId × List (Cell LinearTerm)
held_meta meta = (meta.0, meta.1, meta.2.items)

-- the fields as lists
abbrev pub fields_seen : Fields → meaning.Fields LinearTerm
fields_seen f = record { tags = f.tags.items; heads = map held_head f.heads.items; metas = map held_meta f.metas.items }
