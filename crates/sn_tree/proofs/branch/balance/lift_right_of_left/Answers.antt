use Rattle.std.proofs.Common.{refl}
use Rattle.sn_tree.proofs.Ascending.{front}
use Rattle.sn_tree.proofs.Around.{at_node}
use Rattle.sn_tree.proofs.Rotations.{after_left, before_right}
use Rattle.sn_tree.proofs.branch.balance.lift_right_of_left.Goals as goal

pub join-requires-clause-ascending : goal.join-requires-clause-ascending
join-requires-clause-ascending g c =
    let f = at_node g.K.Ord.cmp c.args.node.now.right c.high.inside.node c.in-Some.middle c.deref-middle.result.now c.high.view_is c.high.invariant c.in-Some.is c.deref-middle.ensures in
    before_right g.K.Ord.cmp _ _ _ _ _ _ f.pairs (front g.K.Ord.cmp _ _ c.requires.ascending)

pub join-requires-2-clause-ascending : goal.join-requires-2-clause-ascending
join-requires-2-clause-ascending g c =
    let f = at_node g.K.Ord.cmp c.args.node.now.right c.high.inside.node c.in-Some.middle c.deref-middle.result.now c.high.view_is c.high.invariant c.in-Some.is c.deref-middle.ensures in
    after_left g.K.Ord.cmp _ _ _ _ _ _ f.pairs (after_left g.K.Ord.cmp _ c.args.node.now.left.0 (c.args.node.now.key, c.args.node.now.value.value) c.args.node.now.right.0 _ _ refl c.requires.ascending)
