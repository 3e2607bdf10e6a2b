use Rattle.std.proofs.Common.{◌≡◌, ◌∙◌, subst}
use Rattle.std.proofs.lemmas.Result.{IfOk-weaker}
use Rattle.sefl_syntax.specs.Views.{node_tree}
use Rattle.fib_model.specs.Fibs.{FibSeen, IsFib}
use Rattle.fib_model.specs.Nodes.{IsFibNode}
use Rattle.fib_model.proofs.NodeLemmas.{fib_exits}
use Rattle.fib_model.proofs.node.fib_node.Goals as goal

pub returns-clause-exits : goal.returns-clause-exits
returns-clause-exits c =
    let fib : FibSeen = c.args.fib.now in
    let same : (record { ports = c.fib.inside.ports; rows = c.deref.result.now }) ≡ fib
    = (λ i. record { ports = c.fib.inside.ports; rows = c.deref.ensures.value i }) ∙ c.fib.view_is in
    let is : IsFib fib.ports fib.rows = subst (λ fib. IsFib fib.ports fib.rows) c.fib.view_is c.fib.invariant in
    IfOk-weaker c.node_of.result _ _
    (λ node made a less.
    fib_exits c.nodes_send_as_their_tables.ensures fib c.args.style (node_tree node) is
    (subst (λ fib. IsFibNode fib c.args.style (node_tree node)) same made) a less)
    c.node_of.ensures
