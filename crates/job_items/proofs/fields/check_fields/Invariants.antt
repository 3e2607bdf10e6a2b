use Rattle.std.proofs.Common.{◌≡◌, drop, take, []}
use Rattle.job_items.specs.Items.{field_items}
use Rattle.job_items.specs.LentTags.{lent_tags}
use Rattle.job_items.specs.Progress.{progress_of, outcome_from}
use Rattle.job_items.proofs.fields.check_fields.Given as goal

abbrev pub invariant-loop-i : goal.invariant-loop-i
invariant-loop-i l =
    outcome_from (progress_of l.tally) (field_items (lent_tags l.tags.entries) (take l.i l.fields) (drop l.i l.fields))
    ≡ outcome_from (progress_of l.fn.tally) (field_items (lent_tags l.tags.entries) [] l.fields)
