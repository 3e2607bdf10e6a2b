use Rattle.std.proofs.Common.{◌≡◌, ◌+◌, ◌-◌, ◌<◌, ◌≤◌, ℕ, ◌&&◌, ◌||◌, nat_le, drop, length}
use Rattle.sn_ranges.specs.Ranges.{is_member, AscendFrom, last_start}
use Rattle.sn_ranges.proofs.RangesLemmas.{range_at}
use Rattle.sn_ranges.proofs.shift.append_raised.Given as goal

abbrev pub invariant-loop-range : goal.invariant-loop-range
invariant-loop-range l = record {
  ascending : AscendFrom 0 l.shifted.items;
  later : l.range-index < length l.ranges → last_start 0 l.shifted.items ≤ (range_at l.ranges l.range-index).0 + l.by;
  members : (value : ℕ) → (is_member l.shifted.items value || (nat_le l.by value && (nat_le value (l.room + l.by) && is_member (drop l.range-index l.ranges) (value - l.by))))
      ≡ (is_member l.fn.shifted.items value || (nat_le l.by value && (nat_le value (l.room + l.by) && is_member l.ranges (value - l.by))));
}
