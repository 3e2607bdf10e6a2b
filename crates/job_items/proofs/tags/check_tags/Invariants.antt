use Rattle.std.proofs.Common.{◌≡◌, drop}
use Rattle.job_items.specs.Items.{tag_items}
use Rattle.job_items.specs.LentTags.{lent_tags}
use Rattle.job_items.specs.Progress.{progress_of, outcome_from}
use Rattle.job_items.specs.Tags.{tags_after}
use Rattle.job_items.proofs.tags.check_tags.Given as goal

abbrev pub invariant-loop-line : goal.invariant-loop-line
invariant-loop-line l = record {
  follows : outcome_from (progress_of l.tally) (tag_items (lent_tags l.tags.entries) (drop l.line-index l.lines))
      ≡ outcome_from (progress_of l.fn.tally) (tag_items (lent_tags l.fn.tags.entries) l.lines);
  made : tags_after (lent_tags l.tags.entries) (drop l.line-index l.lines) ≡ tags_after (lent_tags l.fn.tags.entries) l.lines;
}
