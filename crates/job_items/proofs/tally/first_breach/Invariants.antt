use Rattle.std.proofs.Common.{◌≡◌, drop}
use Rattle.job_items.specs.Rules.{first_breach}
use Rattle.job_items.proofs.tally.first_breach.Given as goal

abbrev pub invariant-loop-holds : goal.invariant-loop-holds
invariant-loop-holds l = first_breach (drop l.holds-index l.rows) ≡ first_breach l.rows
