use Rattle.cell_stacks.proofs.StackLemmas.{last_is_full}
use Rattle.cell_stacks.proofs.stack_map.StackMap.below.Goals as goal

pub returns-clause-some : goal.returns-clause-some
returns-clause-some g c = last_is_full g.K.Ord.cmp c.args.key.now c.self.inside.stacks c.self.invariant _ c.below.ensures.pair
