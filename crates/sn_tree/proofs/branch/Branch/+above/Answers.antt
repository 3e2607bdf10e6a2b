use Rattle.std.proofs.Common.{◌∙◌, sym}
use Rattle.sn_tree.proofs.Around.{at_node, next_equal, next_greater}
use Rattle.sn_tree.proofs.branch.Branch.+above.Goals as goal

pub returns-in-Equal : goal.returns-in-Equal
returns-in-Equal g t c =
    let f = at_node g.K.Ord.cmp c.args.self.now c.self.inside.node c.in-Some.node c.deref-node.result.now c.self.view_is c.self.invariant c.in-Some.is c.deref-node.ensures in
    c.above-in-Equal.ensures ∙ sym (next_equal g.met.K.Ord.total f c.args.key.now (sym c.in-Equal.ensures))

pub returns-in-Greater : goal.returns-in-Greater
returns-in-Greater g t c =
    let f = at_node g.K.Ord.cmp c.args.self.now c.self.inside.node c.in-Some.node c.deref-node.result.now c.self.view_is c.self.invariant c.in-Some.is c.deref-node.ensures in
    c.above-in-Greater.ensures ∙ sym (next_greater g.met.K.Ord.total f c.args.key.now (sym c.in-Greater.ensures))
