use Rattle.std.proofs.Common.{◌≡◌, ℕ, ◌||◌, drop}
use Rattle.sn_ranges.specs.Ranges.{is_member, AscendFrom, StartFrom, last_start}
use Rattle.sn_ranges.proofs.merge.append_all.Given as goal

abbrev pub invariant-loop-range : goal.invariant-loop-range
invariant-loop-range l = record {
  ascending : AscendFrom 0 l.ranges.items;
  later : StartFrom (last_start 0 l.ranges.items) (drop l.range-index l.more);
  members : (value : ℕ) → (is_member l.ranges.items value || is_member (drop l.range-index l.more) value) ≡ (is_member l.fn.ranges.items value || is_member l.more value);
}
