use Rattle.std.proofs.Common.{◌≡◌, drop}
use Rattle.std.specs.List.{list_any}
use Rattle.job_items.specs.LentTags.{lent_tags}
use Rattle.job_items.specs.Rules.{reads_at_other_width}
use Rattle.job_items.proofs.lines.any_at_other_width.Given as goal

abbrev pub invariant-loop-atom : goal.invariant-loop-atom
invariant-loop-atom l =
    list_any (reads_at_other_width (lent_tags l.tags.entries) l.fields) (drop l.atom-index l.atoms)
    ≡ list_any (reads_at_other_width (lent_tags l.tags.entries) l.fields) l.atoms
