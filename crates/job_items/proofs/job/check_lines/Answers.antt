use Rattle.std.proofs.Common.{[], ap, ap₂, ◌∙◌}
use Rattle.sefl_syntax.specs.Views.{injection_tree}
use Rattle.job_items.specs.Items.{tag_items, value_items}
use Rattle.job_items.specs.LentTags.{lent_tags}
use Rattle.job_items.specs.Tags.{tags_after}
use Rattle.job_items.specs.Progress.{progress_of}
use Rattle.job_items.proofs.Outcomes.{follows_error, first_stops, second_answers}
use Rattle.job_items.proofs.job.check_lines.Goals as goal

pub returns-in_err-check_tags : goal.returns-in_err-check_tags
returns-in_err-check_tags c =
    let i = c.args.injection.now in
    follows_error _ c.from_residual.result c.in_err-check_tags.field-0.0 (progress_of c.check_tags.new.tally) c.from_residual.ensures.1
    (first_stops (progress_of c.args.tally.now) (tag_items [] i.tags.items) (tag_items (lent_tags c.new-tags.result.entries) c.deref.result.now)
    (value_items (tags_after [] i.tags.items) (injection_tree i)) c.in_err-check_tags.field-0.0 (progress_of c.check_tags.new.tally)
    (ap₂ (λ n l. tag_items (lent_tags n) l) c.new-tags.ensures.empty c.deref.ensures.value) c.in_err-check_tags.ensures.follows)

pub returns : goal.returns
returns c =
    let i = c.args.injection.now in
    second_answers (progress_of c.args.tally.now) (progress_of c.check_tags.new.tally) (tag_items [] i.tags.items) (tag_items (lent_tags c.new-tags.result.entries) c.deref.result.now)
    (value_items (tags_after [] i.tags.items) (injection_tree i)) (value_items (lent_tags c.check_tags.new.tags.entries) (injection_tree i)) c.check_values.result (progress_of c.check_values.new.tally)
    (ap₂ (λ n l. tag_items (lent_tags n) l) c.new-tags.ensures.empty c.deref.ensures.value) (ap (λ n. value_items n (injection_tree i)) (c.in_ok-check_tags.ensures.made ∙ ap₂ (λ n l. tags_after (lent_tags n) l) c.new-tags.ensures.empty c.deref.ensures.value)) c.in_ok-check_tags.ensures.follows c.check_values.ensures
