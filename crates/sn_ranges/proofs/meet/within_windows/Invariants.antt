use Rattle.std.proofs.Common.{◌≡◌, ◌+◌, ◌<◌, ℕ, true, ◌&&◌, ◌||◌, drop, length}
use Rattle.sn_ranges.specs.Ranges.{is_member, AscendFrom}
use Rattle.sn_ranges.proofs.RangesLemmas.{range_at}
use Rattle.sn_ranges.proofs.meet.within_windows.Given as goal

abbrev pub invariant-loop-window : goal.invariant-loop-window
invariant-loop-window l = record {
  ascending : AscendFrom 0 l.common.items;
  rest_ascending : AscendFrom 0 l.rest;
  apart : l.window-index < length l.windows → (value : ℕ) → is_member l.common.items value ≡ true → value + 1 < (range_at l.windows l.window-index).0;
  members : (value : ℕ) → (is_member l.common.items value || (is_member l.rest value && is_member (drop l.window-index l.windows) value)) ≡ (is_member l.ranges value && is_member l.windows value);
}
