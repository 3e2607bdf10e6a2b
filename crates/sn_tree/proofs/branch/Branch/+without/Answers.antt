use Rattle.std.proofs.Common.{◌∙◌, sym}
use Rattle.std.proofs.lemmas.Result.{IfOk-weaker}
use Rattle.sn_tree.proofs.Around.{at_node, without_equal, without_less_whole, without_greater_whole, without_less_ascends, without_equal_ascends, without_greater_ascends}
use Rattle.sn_tree.proofs.branch.Branch.+without.Goals as goal

pub balance-requires-clause-ascending : goal.balance-requires-clause-ascending
balance-requires-clause-ascending g t c =
    let f = at_node g.K.Ord.cmp c.args.self.now c.self.inside.node c.in-Some.node c.deref-node.result.now c.self.view_is c.self.invariant c.in-Some.is c.deref-node.ensures in
    without_less_ascends g.met.K.Ord.total f c.args.key.now _ (sym c.in-Less.ensures) c.in_ok-left-in-Less.ensures.pairs

pub append-requires-clause-ascending : goal.append-requires-clause-ascending
append-requires-clause-ascending g t c =
    let f = at_node g.K.Ord.cmp c.args.self.now c.self.inside.node c.in-Some.node c.deref-node.result.now c.self.view_is c.self.invariant c.in-Some.is c.deref-node.ensures in
    without_equal_ascends g.met.K.Ord.total f c.args.key.now (sym c.in-Equal.ensures)

pub balance-requires-in-Greater-clause-ascending : goal.balance-requires-in-Greater-clause-ascending
balance-requires-in-Greater-clause-ascending g t c =
    let f = at_node g.K.Ord.cmp c.args.self.now c.self.inside.node c.in-Some.node c.deref-node.result.now c.self.view_is c.self.invariant c.in-Some.is c.deref-node.ensures in
    without_greater_ascends g.met.K.Ord.total f c.args.key.now _ (sym c.in-Greater.ensures) c.in_ok-right-in-Greater.ensures.pairs

pub returns-in_ok-left-in-Less-clause-pairs : goal.returns-in_ok-left-in-Less-clause-pairs
returns-in_ok-left-in-Less-clause-pairs g t c =
    let f = at_node g.K.Ord.cmp c.args.self.now c.self.inside.node c.in-Some.node c.deref-node.result.now c.self.view_is c.self.invariant c.in-Some.is c.deref-node.ensures in
    let e = without_less_whole g.met.K.Ord.total f c.args.key.now c.in_ok-left-in-Less.left.0 (sym c.in-Less.ensures) c.in_ok-left-in-Less.ensures.pairs in
    IfOk-weaker c.balance.result _ _ (λ b h. h ∙ e) c.balance.ensures.pairs

pub returns-in-Equal-clause-pairs : goal.returns-in-Equal-clause-pairs
returns-in-Equal-clause-pairs g t c =
    let f = at_node g.K.Ord.cmp c.args.self.now c.self.inside.node c.in-Some.node c.deref-node.result.now c.self.view_is c.self.invariant c.in-Some.is c.deref-node.ensures in
    let e = without_equal g.met.K.Ord.total f c.args.key.now (sym c.in-Equal.ensures) in
    IfOk-weaker c.append.result _ _ (λ b h. h ∙ sym e) c.append.ensures.pairs

pub returns-in_ok-right-in-Greater-clause-pairs : goal.returns-in_ok-right-in-Greater-clause-pairs
returns-in_ok-right-in-Greater-clause-pairs g t c =
    let f = at_node g.K.Ord.cmp c.args.self.now c.self.inside.node c.in-Some.node c.deref-node.result.now c.self.view_is c.self.invariant c.in-Some.is c.deref-node.ensures in
    let e = without_greater_whole g.met.K.Ord.total f c.args.key.now c.in_ok-right-in-Greater.right.0 (sym c.in-Greater.ensures) c.in_ok-right-in-Greater.ensures.pairs in
    IfOk-weaker c.balance-in-Greater.result _ _ (λ b h. h ∙ e) c.balance-in-Greater.ensures.pairs
