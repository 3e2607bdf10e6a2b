use Rattle.std.proofs.Common.{◌≡◌, ◌∙◌, ◌≤◌, All, map, sym, subst}
use Rattle.table_nodes.specs.TableNodes.{Row}
use Rattle.mac_model.specs.Nodes.{whole}
use Rattle.mac_model.proofs.NodeLemmas.{all_whole}
use Rattle.mac_model.proofs.node.chain.Goals as goal

pub chain_node-requires-clause-length : goal.chain_node-requires-clause-length
chain_node-requires-clause-length c =
    let is : c.deref-2.result.now ≡ map whole c.deref.result.now = c.deref-2.ensures.value ∙ c.in_ok-wholes.ensures in
    subst (All (λ (row : Row). row.1 ≤ 48)) (sym is) (all_whole c.deref.result.now)
