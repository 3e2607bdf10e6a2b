use Rattle.std.proofs.Common.{◌∙◌}
use Rattle.std.proofs.lemmas.Result.{IfOk-weaker}
use Rattle.sn_tree.proofs.Around.{at_node}
use Rattle.sn_tree.proofs.Rotations.{before_right, right_whole}
use Rattle.sn_tree.proofs.branch.balance.lean_right.Goals as goal

pub join-requires-clause-ascending : goal.join-requires-clause-ascending
join-requires-clause-ascending g c =
    let f = at_node g.K.Ord.cmp c.args.right.now c.right.inside.node c.in-Some.node c.deref-node.result.now c.right.view_is c.right.invariant c.in-Some.is c.deref-node.ensures in
    before_right g.K.Ord.cmp _ _ _ _ _ _ f.pairs c.requires.ascending

pub returns-clause-pairs : goal.returns-clause-pairs
returns-clause-pairs g c =
    let f = at_node g.K.Ord.cmp c.args.right.now c.right.inside.node c.in-Some.node c.deref-node.result.now c.right.view_is c.right.invariant c.in-Some.is c.deref-node.ensures in
    let e = right_whole c.args.left.now.0 (c.args.key, c.args.value.now.value) _ _ _ c.args.right.now.0 c.in_ok-inner.inner.0 f.pairs c.in_ok-inner.ensures.pairs in
    IfOk-weaker c.join-2.result _ _ (λ b h. h ∙ e) c.join-2.ensures.pairs
