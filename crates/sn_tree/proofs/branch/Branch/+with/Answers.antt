use Rattle.std.proofs.Common.{◌∙◌, sym}
use Rattle.std.proofs.lemmas.Result.{IfOk-weaker}
use Rattle.sn_tree.proofs.Around.{at_node, with_equal, with_less_whole, with_greater_whole, with_less_ascends, with_equal_ascends, with_greater_ascends}
use Rattle.sn_tree.proofs.branch.Branch.+with.Goals as goal

pub balance-requires-clause-ascending : goal.balance-requires-clause-ascending
balance-requires-clause-ascending g t c =
    let f = at_node g.K.Ord.cmp c.args.self.now c.self.inside.node c.in-Some.node c.deref-node.result.now c.self.view_is c.self.invariant c.in-Some.is c.deref-node.ensures in
    with_less_ascends g.met.K.Ord.total f c.args.key c.args.value.now.value _ (sym c.in-Less.ensures) c.in_ok-left-in-Less.ensures.pairs

pub join-requires-in-Equal-clause-ascending : goal.join-requires-in-Equal-clause-ascending
join-requires-in-Equal-clause-ascending g t c =
    let f = at_node g.K.Ord.cmp c.args.self.now c.self.inside.node c.in-Some.node c.deref-node.result.now c.self.view_is c.self.invariant c.in-Some.is c.deref-node.ensures in
    with_equal_ascends g.met.K.Ord.total f c.args.key c.args.value.now.value (sym c.in-Equal.ensures)

pub balance-requires-in-Greater-clause-ascending : goal.balance-requires-in-Greater-clause-ascending
balance-requires-in-Greater-clause-ascending g t c =
    let f = at_node g.K.Ord.cmp c.args.self.now c.self.inside.node c.in-Some.node c.deref-node.result.now c.self.view_is c.self.invariant c.in-Some.is c.deref-node.ensures in
    with_greater_ascends g.met.K.Ord.total f c.args.key c.args.value.now.value _ (sym c.in-Greater.ensures) c.in_ok-right-in-Greater.ensures.pairs

pub returns-in_ok-left-in-Less-clause-pairs : goal.returns-in_ok-left-in-Less-clause-pairs
returns-in_ok-left-in-Less-clause-pairs g t c =
    let f = at_node g.K.Ord.cmp c.args.self.now c.self.inside.node c.in-Some.node c.deref-node.result.now c.self.view_is c.self.invariant c.in-Some.is c.deref-node.ensures in
    let e = with_less_whole g.met.K.Ord.total f c.args.key c.args.value.now.value c.in_ok-left-in-Less.left.0 (sym c.in-Less.ensures) c.in_ok-left-in-Less.ensures.pairs in
    IfOk-weaker c.balance.result _ _ (λ b h. h ∙ e) c.balance.ensures.pairs

pub returns-in-Equal-clause-pairs : goal.returns-in-Equal-clause-pairs
returns-in-Equal-clause-pairs g t c =
    let f = at_node g.K.Ord.cmp c.args.self.now c.self.inside.node c.in-Some.node c.deref-node.result.now c.self.view_is c.self.invariant c.in-Some.is c.deref-node.ensures in
    let e = with_equal g.met.K.Ord.total f c.args.key c.args.value.now.value (sym c.in-Equal.ensures) in
    IfOk-weaker c.join-in-Equal.result _ _ (λ b h. h ∙ sym e) c.join-in-Equal.ensures.pairs

pub returns-in_ok-right-in-Greater-clause-pairs : goal.returns-in_ok-right-in-Greater-clause-pairs
returns-in_ok-right-in-Greater-clause-pairs g t c =
    let f = at_node g.K.Ord.cmp c.args.self.now c.self.inside.node c.in-Some.node c.deref-node.result.now c.self.view_is c.self.invariant c.in-Some.is c.deref-node.ensures in
    let e = with_greater_whole g.met.K.Ord.total f c.args.key c.args.value.now.value c.in_ok-right-in-Greater.right.0 (sym c.in-Greater.ensures) c.in_ok-right-in-Greater.ensures.pairs in
    IfOk-weaker c.balance-in-Greater.result _ _ (λ b h. h ∙ e) c.balance-in-Greater.ensures.pairs
