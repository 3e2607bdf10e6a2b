use Rattle.std.proofs.Common.{◌∙◌, sym, ap, Some}
use Rattle.sn_tree.proofs.Around.{at_node, value_less, value_equal, value_greater}
use Rattle.sn_tree.proofs.branch.Branch.+get.Goals as goal

pub returns-in-Less : goal.returns-in-Less
returns-in-Less g t c =
    let f = at_node g.K.Ord.cmp c.args.self.now c.self.inside.node c.in-Some.node c.deref-node.result.now c.self.view_is c.self.invariant c.in-Some.is c.deref-node.ensures in
    c.get.ensures ∙ sym (value_less g.met.K.Ord.total f c.args.key.now (sym c.in-Less.ensures))

pub returns-in-Equal : goal.returns-in-Equal
returns-in-Equal g t c =
    let f = at_node g.K.Ord.cmp c.args.self.now c.self.inside.node c.in-Some.node c.deref-node.result.now c.self.view_is c.self.invariant c.in-Some.is c.deref-node.ensures in
    ap Some c.deref.ensures ∙ sym (value_equal g.met.K.Ord.total f c.args.key.now (sym c.in-Equal.ensures))

pub returns-in-Greater : goal.returns-in-Greater
returns-in-Greater g t c =
    let f = at_node g.K.Ord.cmp c.args.self.now c.self.inside.node c.in-Some.node c.deref-node.result.now c.self.view_is c.self.invariant c.in-Some.is c.deref-node.ensures in
    c.get-in-Greater.ensures ∙ sym (value_greater g.met.K.Ord.total f c.args.key.now (sym c.in-Greater.ensures))
