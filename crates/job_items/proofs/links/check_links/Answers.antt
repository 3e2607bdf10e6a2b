use Rattle.std.proofs.Common.{refl}
use Rattle.job_items.specs.Items.{link_item, link_items}
use Rattle.job_items.specs.LentNodes.{lent_nodes, lent_outputs}
use Rattle.job_items.specs.Nodes.{node_named, with_link}
use Rattle.job_items.specs.Progress.{progress_of, outcome_from}
use Rattle.job_items.proofs.Outcomes.{follows_error, stops_among}
use Rattle.job_items.proofs.links.check_links.Goals as goal

pub returns-in_err-check_link : goal.returns-in_err-check_link
returns-in_err-check_link c =
    let nodes = lent_nodes c.args.nodes.now.entries in
    let used = lent_outputs c.loop-link.used.keys in
    follows_error _ c.from_residual.result c.in_err-check_link.field-0.0 (progress_of c.check_link.new.tally) c.from_residual.ensures.1
    (stops_among (link_items nodes used) (λ l. link_item used (node_named nodes l.from) (node_named nodes l.to) l)
    (λ l ls. link_items nodes (with_link used l) ls) (λ l ls. refl)
    (outcome_from (progress_of c.args.tally.now) (link_items nodes (lent_outputs c.args.used.now.keys) c.args.links.now))
    (progress_of c.loop-link.tally) c.args.links.now c.loop-link.link-index c.link-item.result c.in_err-check_link.field-0.0
    (progress_of c.check_link.new.tally) c.loop-link-test.true c.link-item.is c.loop-link.invariant c.in_err-check_link.ensures.follows)
