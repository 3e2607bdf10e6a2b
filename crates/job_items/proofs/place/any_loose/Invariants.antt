use Rattle.std.proofs.Common.{◌≡◌, drop}
use Rattle.std.specs.List.{list_any}
use Rattle.job_items.specs.AtomRules.{has_loose}
use Rattle.job_items.specs.Places.{vars_of}
use Rattle.job_items.proofs.place.any_loose.Given as goal

abbrev pub invariant-loop-atom : goal.invariant-loop-atom
invariant-loop-atom l =
    list_any (has_loose (vars_of l.vars)) (drop l.atom-index l.atoms) ≡ list_any (has_loose (vars_of l.vars)) l.atoms
