use Rattle.std.proofs.Common.{◌≡◌, ◌≤◌, ◌-◌, length, take}
use Rattle.table_nodes.proofs.ranges.pairs_of.Given as goal

abbrev pub invariant-loop-range : goal.invariant-loop-range
invariant-loop-range l = record {
  pairs : l.pairs.items ≡ take l.index l.set.pairs;
  within : l.index ≤ length l.set.pairs;
}

abbrev pub decreases-loop-range : goal.decreases-loop-range
decreases-loop-range l = length l.set.pairs - l.index
