use Rattle.std.proofs.Common.{◌≡◌, drop}
use Rattle.std.specs.List.{list_any}
use Rattle.job_items.specs.LentTags.{lent_tags}
use Rattle.job_items.specs.Gathered.{lent}
use Rattle.job_items.specs.Rules.{differs_from, injected_width}
use Rattle.job_items.specs.AtomRules.{width_of}
use Rattle.job_items.proofs.lines.reads_at_other_width.Given as goal

abbrev pub invariant-loop-target : goal.invariant-loop-target
invariant-loop-target l =
    list_any (λ target. differs_from (injected_width (lent_tags l.tags.entries) l.fields target) (width_of target)) (lent (drop l.target-index l.reads))
    ≡ list_any (λ target. differs_from (injected_width (lent_tags l.tags.entries) l.fields target) (width_of target)) (lent l.reads)
