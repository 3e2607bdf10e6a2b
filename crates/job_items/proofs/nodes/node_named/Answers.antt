use Rattle.std.proofs.Common.{◌∙◌}
use Rattle.job_items.proofs.NodeLemmas.{lent_lookup_node}
use Rattle.job_items.proofs.nodes.node_named.Goals as goal

pub returns : goal.returns
returns c = c.copied.ensures ∙ c.get.ensures.value ∙ lent_lookup_node c.args.nodes.now.entries c.args.name.now
