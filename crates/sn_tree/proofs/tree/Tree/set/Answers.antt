use Rattle.std.proofs.Common.{sym, subst}
use Rattle.sn_tree.specs.Pairs.{IsAscending}
use Rattle.sn_tree.proofs.Ascending.{ascending_with}
use Rattle.sn_tree.proofs.Owned.{replaced_ascends}
use Rattle.sn_tree.proofs.tree.Tree.set.Goals as goal

pub invariant_of-self : goal.invariant_of-self
invariant_of-self g c = replaced_ascends g.met.K.Ord.total c.replace.result c.args.key c.args.value c.self.inside.root.0 c.replace.new.self.0 c.replace.ensures.pairs c.replace.ensures.same c.self.invariant

pub invariant_of-self-2 : goal.invariant_of-self-2
invariant_of-self-2 g c = subst (IsAscending g.K.Ord.cmp) (sym c.in_ok-root.ensures.pairs) (ascending_with g.met.K.Ord.total c.args.key _ c.self.inside.root.0 c.self.invariant)
