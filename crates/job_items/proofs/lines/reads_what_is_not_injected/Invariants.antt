use Rattle.std.proofs.Common.{◌≡◌, drop, is_none}
use Rattle.std.specs.List.{list_any}
use Rattle.job_items.specs.LentTags.{lent_tags}
use Rattle.job_items.specs.Gathered.{lent}
use Rattle.job_items.specs.Rules.{injected_width}
use Rattle.job_items.proofs.lines.reads_what_is_not_injected.Given as goal

abbrev pub invariant-loop-target : goal.invariant-loop-target
invariant-loop-target l =
    list_any (λ target. is_none (injected_width (lent_tags l.tags.entries) l.fields target)) (lent (drop l.target-index l.reads))
    ≡ list_any (λ target. is_none (injected_width (lent_tags l.tags.entries) l.fields target)) (lent l.reads)
