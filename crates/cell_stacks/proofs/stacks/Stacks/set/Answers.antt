use Rattle.std.proofs.Common.{refl, sym}
use Rattle.cell_stacks.proofs.CellLemmas.{one_width_set}
use Rattle.cell_stacks.proofs.stacks.Stacks.set.Goals as goal

pub invariant_of-self-2 : goal.invariant_of-self-2
invariant_of-self-2 g c = rw c.in_ok-replace_top.ensures.ok (one_width_set g.K.Ord.cmp c.args.key c.self.inside.cells c.self.invariant c.args.absent c.args.width c.in_ok-top_cell.field-0.now _ (rw c.self.view_is (sym c.in_ok-top_cell.ensures.cell)) refl)
