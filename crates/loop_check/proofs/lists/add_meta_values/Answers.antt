use denote.Ref.{Bor}
use Rattle.std.proofs.Common.{◌∙◌, ◌++◌, ap, List, map, refl, Option}
use Rattle.std.specs.declared.alloc.Global.{Global}
use Rattle.std.specs.declared.vec.Vec.{Vec}
use Rattle.sn_width.specs.declared.ids.NodeId.{NodeId}
use Rattle.sn_width.specs.declared.ids.NameId.{NameId}
use Rattle.lin_term.specs.Terms.{LinearTerm}
use Rattle.cell_stacks.specs.declared.cell.Cell.{Cell}
use Rattle.cell_stacks.specs.Cells.{lent_cell}
use Rattle.metadata_scopes.specs.Scopes.{lent_meta}
use Rattle.loop_meaning.specs.Visits.{values_in}
use Rattle.loop_check.specs.Lists.{meta_values, terms_of}
use Rattle.loop_check.proofs.Gathering.{gathered_all, gathered_more}
use Rattle.loop_check.proofs.lists.add_meta_values.Goals as goal

abbrev all : List (Option NodeId × NameId × Vec (Cell (Bor LinearTerm)) Global) → List LinearTerm
all metas = meta_values (map lent_meta metas)

abbrev each : Option NodeId × NameId × Vec (Cell (Bor LinearTerm)) Global → List LinearTerm
each meta = values_in (map lent_cell meta.2.items)

pub loop-cells-preserved : goal.loop-cells-preserved
loop-cells-preserved c =
    gathered_more all each (λ x xs. refl) c.args.metas.now c.loop-cells.cells-index c.loop-cells-item.result c.loop-cells-test.true c.loop-cells-item.is _ _ _
    (c.in_ok-add_values.ensures
    ∙ ap (λ (z : List (Cell (Bor LinearTerm))). terms_of c.loop-cells.values.items ++ values_in (map lent_cell z)) c.deref.ensures.value) c.loop-cells.invariant

pub returns : goal.returns
returns c = gathered_all all each (λ x xs. refl) refl c.args.metas.now c.loop-cells.cells-index c.loop-cells-test.false _ _ c.loop-cells.invariant
