use Rattle.std.proofs.Common.{◌≡◌, ◌≤◌, ℕ, ◌&&◌, not, nat_lt, drop}
use Rattle.sn_ranges.specs.Ranges.{is_member, AscendFrom}
use Rattle.sn_ranges.proofs.RangesLemmas.{next_free}
use Rattle.sn_ranges.proofs.gaps.gaps.Given as goal

abbrev pub invariant-loop-range : goal.invariant-loop-range
invariant-loop-range l = record {
  within : l.next ≤ l.max;
  ascending : AscendFrom 0 l.gaps.items;
  free : next_free 0 l.gaps.items ≤ l.next;
  later : AscendFrom l.next (drop l.range-index l.ranges);
  passed : (value : ℕ) → l.next ≤ value → is_member (drop l.range-index l.ranges) value ≡ is_member l.ranges value;
  members : (value : ℕ) → is_member l.gaps.items value ≡ (nat_lt value l.next && not (is_member l.ranges value));
}
