use Rattle.std.proofs.Common.{◌≡◌, drop}
use Rattle.std.specs.List.{list_any}
use Rattle.job_items.specs.LentTags.{lent_tags}
use Rattle.job_items.specs.Rules.{do_overlap}
use Rattle.job_items.proofs.fields.overlaps_any.Given as goal

abbrev pub invariant-loop-own : goal.invariant-loop-own
invariant-loop-own l =
    list_any (λ own. do_overlap (lent_tags l.tags.entries) l.target own.target) (drop l.own-index l.before)
    ≡ list_any (λ own. do_overlap (lent_tags l.tags.entries) l.target own.target) l.before
