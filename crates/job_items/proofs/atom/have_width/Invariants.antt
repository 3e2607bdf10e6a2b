use Rattle.std.proofs.Common.{◌≡◌, ◌==◌, drop}
use Rattle.std.specs.List.{list_all}
use Rattle.job_items.specs.AtomRules.{width_of}
use Rattle.job_items.specs.Gathered.{lent}
use Rattle.job_items.proofs.atom.have_width.Given as goal

abbrev pub invariant-loop-target : goal.invariant-loop-target
invariant-loop-target l =
    list_all (λ target. width_of target == l.width) (lent (drop l.target-index l.reads))
    ≡ list_all (λ target. width_of target == l.width) (lent l.reads)
