use Rattle.std.proofs.Common.{◌&&◌, take}
use Rattle.sn_ranges.specs.Ranges.{IsSetOf, fits_width}
use Rattle.path_cond.specs.Picks.{meets_picks}
use Rattle.path_cond.proofs.picks.values_of_width.Given as goal

-- the set so far is that of the picks so far
abbrev pub invariant-loop-pick : goal.invariant-loop-pick
invariant-loop-pick l = IsSetOf l.width (λ x. fits_width l.width x && meets_picks l.symbol l.cond (take l.pick-index l.picks) x) l.set
