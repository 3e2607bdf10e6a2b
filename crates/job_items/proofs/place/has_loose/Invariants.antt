use Rattle.std.proofs.Common.{◌≡◌, drop}
use Rattle.std.specs.List.{list_any}
use Rattle.job_items.specs.AtomRules.{is_loose}
use Rattle.job_items.specs.Gathered.{lent}
use Rattle.job_items.specs.Places.{vars_of}
use Rattle.job_items.proofs.place.has_loose.Given as goal

abbrev pub invariant-loop-target : goal.invariant-loop-target
invariant-loop-target l =
    list_any (is_loose (vars_of l.vars)) (lent (drop l.target-index l.reads)) ≡ list_any (is_loose (vars_of l.vars)) (lent l.reads)
