use Rattle.std.proofs.Common.{[], sym, subst}
use Rattle.cell_stacks.specs.Stacks.{NoneEmpty}
use Rattle.cell_stacks.proofs.StackLemmas.{filled, none_empty_set, none_empty_with_stack}
use Rattle.cell_stacks.proofs.stack_map.StackMap.pop.Goals as goal

pub invariant_of-self : goal.invariant_of-self
invariant_of-self g c =
    subst NoneEmpty (sym c.in_ok-stacks.ensures.removed) (none_empty_with_stack g.K.Ord.cmp c.args.key [] c.self.inside.stacks c.self.invariant)

pub invariant_of-self-2 : goal.invariant_of-self-2
invariant_of-self-2 g c =
    none_empty_set g.K.Ord.cmp c.set.result c.args.key c.in_ok-stack.stack c.self.inside.stacks c.set.new.self
    (filled c.in_ok-stack.stack c.is_empty.result c.if-is_empty.false c.is_empty.ensures) c.set.ensures.put c.set.ensures.same c.self.invariant
