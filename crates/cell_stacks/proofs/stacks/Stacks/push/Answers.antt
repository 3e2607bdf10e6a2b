use Rattle.std.proofs.Common.{rules}
use Rattle.cell_stacks.proofs.CellLemmas.{one_width_pushed}
use Rattle.cell_stacks.proofs.stacks.Stacks.push.Goals as goal

pub invariant_of-self-2 : goal.invariant_of-self-2
invariant_of-self-2 g c = rw c.in_ok-push.ensures.ok (one_width_pushed g.K.Ord.cmp c.args.key c.self.inside.cells c.self.invariant _ (search rules))
