use Rattle.std.proofs.Common.{◌∷◌, [], ◌++◌, refl}
use Rattle.sefl_syntax.specs.Views.{injection_tree}
use Rattle.job_items.specs.Items.{injection_item, tag_items, value_items}
use Rattle.job_items.specs.LentNodes.{lent_nodes}
use Rattle.job_items.specs.Nodes.{node_named}
use Rattle.job_items.specs.Tags.{tags_after}
use Rattle.job_items.specs.Progress.{progress_of}
use Rattle.job_items.proofs.Outcomes.{follows_error, first_stops, second_answers}
use Rattle.job_items.proofs.job.check_injection.Goals as goal

pub returns-in_err-check_entry : goal.returns-in_err-check_entry
returns-in_err-check_entry c =
    let i = c.args.injection.now in
    let entry = injection_item (node_named (lent_nodes c.args.nodes.now.entries) i.node) i.port ∷ [] in
    let lines = tag_items [] i.tags.items ++ value_items (tags_after [] i.tags.items) (injection_tree i) in
    follows_error _ c.from_residual.result c.in_err-check_entry.field-0.0 (progress_of c.check_entry.new.tally) c.from_residual.ensures.1
    (first_stops (progress_of c.args.tally.now) (entry) (entry)
    (lines) c.in_err-check_entry.field-0.0 (progress_of c.check_entry.new.tally)
    (refl) c.in_err-check_entry.ensures)

pub returns : goal.returns
returns c =
    let i = c.args.injection.now in
    let entry = injection_item (node_named (lent_nodes c.args.nodes.now.entries) i.node) i.port ∷ [] in
    let lines = tag_items [] i.tags.items ++ value_items (tags_after [] i.tags.items) (injection_tree i) in
    second_answers (progress_of c.args.tally.now) (progress_of c.check_entry.new.tally) (entry) (entry)
    (lines) (lines) c.check_lines.result (progress_of c.check_lines.new.tally)
    (refl) (refl) c.in_ok-check_entry.ensures c.check_lines.ensures
