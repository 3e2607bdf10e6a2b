use Rattle.std.proofs.Common.{◌≡◌, drop}
use Rattle.path_cond.specs.Picks.{are_simple_picks}
use Rattle.refutation_check.proofs.leaves.are_simple.Given as goal

-- the picks that are left decide
abbrev pub invariant-loop-pick : goal.invariant-loop-pick
invariant-loop-pick l = are_simple_picks l.symbol l.cond l.picks ≡ are_simple_picks l.symbol l.cond (drop l.pick-index l.picks)
