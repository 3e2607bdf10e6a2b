use Rattle.std.proofs.Common.{◌≡◌, drop}
use Rattle.job_items.specs.Items.{link_items}
use Rattle.job_items.specs.LentNodes.{lent_nodes, lent_outputs}
use Rattle.job_items.specs.Progress.{progress_of, outcome_from}
use Rattle.job_items.proofs.links.check_links.Given as goal

abbrev pub invariant-loop-link : goal.invariant-loop-link
invariant-loop-link l =
    outcome_from (progress_of l.tally) (link_items (lent_nodes l.nodes.entries) (lent_outputs l.used.keys) (drop l.link-index l.links))
    ≡ outcome_from (progress_of l.fn.tally) (link_items (lent_nodes l.nodes.entries) (lent_outputs l.fn.used.keys) l.links)
