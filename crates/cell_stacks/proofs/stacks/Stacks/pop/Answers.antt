use Rattle.cell_stacks.proofs.CellLemmas.{one_width_popped}
use Rattle.cell_stacks.proofs.stacks.Stacks.pop.Goals as goal

pub invariant_of-self-2 : goal.invariant_of-self-2
invariant_of-self-2 g c = rw c.in_ok-pop.ensures.ok (one_width_popped g.K.Ord.cmp c.args.key c.self.inside.cells c.self.invariant)
