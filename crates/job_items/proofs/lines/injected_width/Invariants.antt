use Rattle.std.proofs.Common.{◌≡◌, drop}
use Rattle.job_items.specs.LentTags.{lent_tags}
use Rattle.job_items.specs.Rules.{injected_width}
use Rattle.job_items.proofs.lines.injected_width.Given as goal

abbrev pub invariant-loop-field : goal.invariant-loop-field
invariant-loop-field l =
    injected_width (lent_tags l.tags.entries) (drop l.field-index l.fields) l.target ≡ injected_width (lent_tags l.tags.entries) l.fields l.target
