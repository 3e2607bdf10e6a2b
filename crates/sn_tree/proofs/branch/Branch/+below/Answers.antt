use Rattle.std.proofs.Common.{◌∙◌, sym, ap, Some}
use Rattle.sn_tree.specs.Pairs.{pair_of}
use Rattle.sn_tree.proofs.Around.{at_node, last_equal, last_less, last_greater_none, last_greater_some}
use Rattle.sn_tree.proofs.branch.Branch.+below.Goals as goal

pub returns-in-None-below : goal.returns-in-None-below
returns-in-None-below g t c =
    let f = at_node g.K.Ord.cmp c.args.self.now c.self.inside.node c.in-Some.node c.deref-node.result.now c.self.view_is c.self.invariant c.in-Some.is c.deref-node.ensures in
    ap (λ v. Some (c.deref-node.result.now.key, v)) c.deref.ensures ∙ sym (last_greater_none g.met.K.Ord.total f c.args.key.now (sym c.in-Greater.ensures) (sym c.in-None-below.ensures))

pub returns-in-Some-below : goal.returns-in-Some-below
returns-in-Some-below g t c =
    let f = at_node g.K.Ord.cmp c.args.self.now c.self.inside.node c.in-Some.node c.deref-node.result.now c.self.view_is c.self.invariant c.in-Some.is c.deref-node.ensures in
    sym (last_greater_some g.met.K.Ord.total f c.args.key.now (pair_of c.in-Some-below.pair) (sym c.in-Greater.ensures) (sym c.in-Some-below.ensures))

pub returns-in-Equal : goal.returns-in-Equal
returns-in-Equal g t c =
    let f = at_node g.K.Ord.cmp c.args.self.now c.self.inside.node c.in-Some.node c.deref-node.result.now c.self.view_is c.self.invariant c.in-Some.is c.deref-node.ensures in
    c.below-in-Equal.ensures ∙ sym (last_equal g.met.K.Ord.total f c.args.key.now (sym c.in-Equal.ensures))

pub returns-in-Less : goal.returns-in-Less
returns-in-Less g t c =
    let f = at_node g.K.Ord.cmp c.args.self.now c.self.inside.node c.in-Some.node c.deref-node.result.now c.self.view_is c.self.invariant c.in-Some.is c.deref-node.ensures in
    c.below-in-Less.ensures ∙ sym (last_less g.met.K.Ord.total f c.args.key.now (sym c.in-Less.ensures))
