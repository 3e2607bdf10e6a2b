use Rattle.std.proofs.Common.{◌≡◌, take, map}
use Rattle.path_cond.specs.Counts.{range_count}
use Rattle.path_cond.proofs.count.count_all_ranges.Given as goal

-- the numbers of ranges of the symbols so far
abbrev pub invariant-loop-symbol : goal.invariant-loop-symbol
invariant-loop-symbol l = l.counts.items ≡ map (range_count l.cond) (take l.symbol-index l.symbol-items)
