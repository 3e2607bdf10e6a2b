use Rattle.std.proofs.Common.{[], map, ap, ap₂, ◌∙◌}
use Rattle.sefl_syntax.specs.Views.{decl_tree}
use Rattle.job_items.specs.Items.{node_items, link_items}
use Rattle.job_items.specs.LentNodes.{lent_nodes, lent_outputs}
use Rattle.job_items.specs.Nodes.{nodes_after}
use Rattle.job_items.specs.Progress.{progress_of}
use Rattle.job_items.proofs.Outcomes.{follows_error, first_stops, second_answers}
use Rattle.job_items.proofs.job.check_net.Goals as goal

pub returns-in_err-check_nodes-clause-follows : goal.returns-in_err-check_nodes-clause-follows
returns-in_err-check_nodes-clause-follows c =
    let n = c.args.net.now in
    follows_error _ c.from_residual.result c.in_err-check_nodes.field-0.0 (progress_of c.check_nodes.new.tally) c.from_residual.ensures.1
    (first_stops (progress_of c.args.tally.now) (node_items [] (map decl_tree n.nodes.items)) (node_items (lent_nodes c.args.nodes.now.entries) (map decl_tree c.deref.result.now))
    (link_items (nodes_after [] (map decl_tree n.nodes.items)) [] n.links.items) c.in_err-check_nodes.field-0.0 (progress_of c.check_nodes.new.tally)
    (ap₂ (λ e l. node_items (lent_nodes e) (map decl_tree l)) c.requires c.deref.ensures.value) c.in_err-check_nodes.ensures.follows)

pub returns-clause-follows : goal.returns-clause-follows
returns-clause-follows c =
    let n = c.args.net.now in
    second_answers (progress_of c.args.tally.now) (progress_of c.check_nodes.new.tally) (node_items [] (map decl_tree n.nodes.items)) (node_items (lent_nodes c.args.nodes.now.entries) (map decl_tree c.deref.result.now))
    (link_items (nodes_after [] (map decl_tree n.nodes.items)) [] n.links.items) (link_items (lent_nodes c.check_nodes.new.nodes.entries) (lent_outputs c.new-used.result.keys) c.deref-2.result.now) c.check_links.result (progress_of c.check_links.new.tally)
    (ap₂ (λ e l. node_items (lent_nodes e) (map decl_tree l)) c.requires c.deref.ensures.value) (ap₂ (λ k l. link_items (lent_nodes c.check_nodes.new.nodes.entries) (lent_outputs k) l) c.new-used.ensures.empty c.deref-2.ensures.value ∙ ap (λ m. link_items m [] n.links.items) (c.in_ok-check_nodes.ensures.made ∙ ap₂ (λ e l. nodes_after (lent_nodes e) (map decl_tree l)) c.requires c.deref.ensures.value)) c.in_ok-check_nodes.ensures.follows c.check_links.ensures
