use Rattle.std.proofs.Common.{◌≡◌, ◌+◌, drop}
use Rattle.job_items.specs.AtomRules.{ranges_in}
use Rattle.job_items.proofs.tally.add_ranges.Given as goal

abbrev pub invariant-loop-atom : goal.invariant-loop-atom
invariant-loop-atom l = l.sum + ranges_in (drop l.atom-index l.atoms) ≡ l.count + ranges_in l.atoms
