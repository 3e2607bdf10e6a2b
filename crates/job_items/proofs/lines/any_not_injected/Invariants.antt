use Rattle.std.proofs.Common.{◌≡◌, drop}
use Rattle.std.specs.List.{list_any}
use Rattle.job_items.specs.LentTags.{lent_tags}
use Rattle.job_items.specs.Rules.{reads_what_is_not_injected}
use Rattle.job_items.proofs.lines.any_not_injected.Given as goal

abbrev pub invariant-loop-atom : goal.invariant-loop-atom
invariant-loop-atom l =
    list_any (reads_what_is_not_injected (lent_tags l.tags.entries) l.fields) (drop l.atom-index l.atoms)
    ≡ list_any (reads_what_is_not_injected (lent_tags l.tags.entries) l.fields) l.atoms
