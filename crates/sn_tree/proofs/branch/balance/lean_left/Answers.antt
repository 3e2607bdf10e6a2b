use Rattle.sn_tree.proofs.Around.{at_node}
use Rattle.sn_tree.proofs.Rotations.{after_left}
use Rattle.sn_tree.proofs.branch.balance.lean_left.Goals as goal

pub join-requires-clause-ascending : goal.join-requires-clause-ascending
join-requires-clause-ascending g c =
    let f = at_node g.K.Ord.cmp c.args.left.now c.left.inside.node c.in-Some.node c.deref-node.result.now c.left.view_is c.left.invariant c.in-Some.is c.deref-node.ensures in
    after_left g.K.Ord.cmp _ _ _ _ _ _ f.pairs c.requires.ascending
