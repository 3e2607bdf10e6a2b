use Rattle.std.proofs.Common.{◌≡◌, drop}
use Rattle.std.specs.List.{flat_map}
use Rattle.job_items.specs.AtomRules.{meta_name}
use Rattle.job_items.specs.Gathered.{lent}
use Rattle.job_items.specs.Rules.{with_names}
use Rattle.job_items.specs.Progress.{lent_texts}
use Rattle.job_items.proofs.tally.note_reads.Given as goal

abbrev pub invariant-loop-target : goal.invariant-loop-target
invariant-loop-target l =
    with_names (lent_texts l.names.keys) (flat_map meta_name (lent (drop l.target-index l.reads)))
    ≡ with_names (lent_texts l.fn.names.keys) (flat_map meta_name (lent l.reads))
