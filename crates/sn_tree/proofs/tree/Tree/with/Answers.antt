use Rattle.std.proofs.Common.{refl, sym, subst}
use Rattle.sn_tree.specs.Pairs.{IsAscending}
use Rattle.sn_tree.proofs.Owned.{replaced_ascends}
use Rattle.sn_tree.proofs.tree.Tree.with.Goals as goal

pub same-root : goal.same-root
same-root g c = refl

pub invariant_of-result : goal.invariant_of-result
invariant_of-result g c =
    let old = c.self.inside.root in
    let forked = c.in_ok-root.root in
    let before = subst (λ b. IsAscending g.K.Ord.cmp b.0) (sym c.in_ok-root.ensures.same) c.self.invariant in
    replaced_ascends g.met.K.Ord.total c.replace.result c.args.key c.args.value forked.0 c.replace.new.self.0 c.replace.ensures.pairs c.replace.ensures.same before
