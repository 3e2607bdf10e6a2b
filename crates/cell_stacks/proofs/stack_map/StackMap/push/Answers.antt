use Rattle.std.proofs.Common.{sym, subst}
use Rattle.cell_stacks.specs.Stacks.{IsNonEmpty}
use Rattle.cell_stacks.proofs.StackLemmas.{none_empty_set}
use Rattle.cell_stacks.proofs.stack_map.StackMap.push.Goals as goal

pub invariant_of-self : goal.invariant_of-self
invariant_of-self g c =
    none_empty_set g.K.Ord.cmp c.set.result c.args.key c.in_ok-stack.stack c.self.inside.stacks c.set.new.self
    (subst IsNonEmpty (sym c.in_ok-stack.ensures) tt) c.set.ensures.put c.set.ensures.same c.self.invariant
