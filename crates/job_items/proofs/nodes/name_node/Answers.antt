use Rattle.std.proofs.Common.{◌∙◌, ap}
use Rattle.job_items.specs.LentNodes.{lent_nodes}
use Rattle.job_items.proofs.NodeLemmas.{lent_insert_node}
use Rattle.job_items.proofs.nodes.name_node.Goals as goal

pub returns : goal.returns
returns c =
    ap lent_nodes c.in_ok-insert.ensures.entries ∙ lent_insert_node c.args.nodes.now.entries c.args.name c.args.ports
