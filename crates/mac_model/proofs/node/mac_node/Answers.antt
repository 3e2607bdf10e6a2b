use Rattle.std.proofs.Common.{◌≡◌, ◌∙◌, subst}
use Rattle.std.proofs.lemmas.Result.{IfOk-weaker}
use Rattle.sefl_syntax.specs.Views.{node_tree}
use Rattle.mac_model.specs.MacTables.{MacSeen, IsMac}
use Rattle.mac_model.specs.Nodes.{IsMacNode}
use Rattle.mac_model.proofs.NodeLemmas.{mac_exits}
use Rattle.mac_model.proofs.node.mac_node.Goals as goal

pub returns-clause-exits : goal.returns-clause-exits
returns-clause-exits c =
    let mac : MacSeen = c.args.table.now in
    let same : (record { ports = c.table.inside.ports; rows = c.deref.result.now }) ≡ mac
    = (λ i. record { ports = c.table.inside.ports; rows = c.deref.ensures.value i }) ∙ c.table.view_is in
    let is : IsMac mac.ports mac.rows = subst (λ mac. IsMac mac.ports mac.rows) c.table.view_is c.table.invariant in
    IfOk-weaker c.node_of.result _ _
    (λ node made a less.
    mac_exits c.nodes_send_as_their_tables.ensures mac c.args.style (node_tree node) is
    (subst (λ mac. IsMacNode mac c.args.style (node_tree node)) same made) a less)
    c.node_of.ensures
