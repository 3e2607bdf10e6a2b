use Rattle.cell_stacks.proofs.StackLemmas.{next_is_full}
use Rattle.cell_stacks.proofs.stack_map.StackMap.above.Goals as goal

pub returns-clause-some : goal.returns-clause-some
returns-clause-some g c = next_is_full g.K.Ord.cmp c.args.key.now c.self.inside.stacks c.self.invariant _ c.above.ensures.pair
