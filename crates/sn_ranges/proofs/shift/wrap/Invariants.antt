use Rattle.std.proofs.Common.{◌≡◌, ◌+◌, ◌-◌, ◌<◌, ◌≤◌, ℕ, ◌||◌, drop, length}
use Rattle.sn_ranges.specs.Ranges.{is_member, AscendFrom, last_start}
use Rattle.sn_ranges.proofs.RangesLemmas.{range_at}
use Rattle.sn_ranges.proofs.shift.wrap.Given as goal

abbrev pub invariant-loop-range : goal.invariant-loop-range
invariant-loop-range l = record {
  ascending : AscendFrom 0 l.wrapped.items;
  later : l.range-index < length l.ranges → last_start 0 l.wrapped.items ≤ (range_at l.ranges l.range-index).0 - (l.room + 1);
  members : (value : ℕ) → (is_member l.wrapped.items value || is_member (drop l.range-index l.ranges) (value + (l.room + 1))) ≡ is_member l.ranges (value + (l.room + 1));
}
