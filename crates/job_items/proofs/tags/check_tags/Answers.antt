use Rattle.std.proofs.Common.{refl}
use Rattle.job_items.specs.Items.{tag_item, tag_items}
use Rattle.job_items.specs.LentTags.{lent_tags}
use Rattle.job_items.specs.Progress.{progress_of, outcome_from}
use Rattle.job_items.specs.Tags.{with_tag}
use Rattle.job_items.proofs.Outcomes.{follows_error, stops_among}
use Rattle.job_items.proofs.tags.check_tags.Goals as goal

pub returns-in_err-check_tag-clause-follows : goal.returns-in_err-check_tag-clause-follows
returns-in_err-check_tag-clause-follows c =
    let tags = lent_tags c.loop-line.tags.entries in
    follows_error _ c.from_residual.result c.in_err-check_tag.field-0.0 (progress_of c.check_tag.new.tally) c.from_residual.ensures.1
    (stops_among (tag_items tags) (tag_item tags) (λ line lines. tag_items (with_tag tags line) lines) (λ line lines. refl)
    (outcome_from (progress_of c.args.tally.now) (tag_items (lent_tags c.args.tags.now.entries) c.args.lines.now))
    (progress_of c.loop-line.tally) c.args.lines.now c.loop-line.line-index c.line-item.result c.in_err-check_tag.field-0.0
    (progress_of c.check_tag.new.tally) c.loop-line-test.true c.line-item.is c.loop-line.invariant.follows c.in_err-check_tag.ensures.follows)
