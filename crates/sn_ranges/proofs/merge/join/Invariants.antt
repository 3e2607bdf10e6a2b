use Rattle.std.proofs.Common.{◌≡◌, ◌+◌, ◌-◌, ◌≤◌, ℕ, ◌||◌, drop, length}
use Rattle.sn_ranges.specs.Ranges.{is_member, AscendFrom, StartFrom, last_start}
use Rattle.sn_ranges.proofs.merge.join.Given as goal

abbrev pub invariant-loop-i : goal.invariant-loop-i
invariant-loop-i l = record {
  left_within : l.i ≤ length l.left;
  right_within : l.j ≤ length l.right;
  ascending : AscendFrom 0 l.all.items;
  left_later : StartFrom (last_start 0 l.all.items) (drop l.i l.left);
  right_later : StartFrom (last_start 0 l.all.items) (drop l.j l.right);
  members : (value : ℕ) → (is_member l.all.items value || (is_member (drop l.i l.left) value || is_member (drop l.j l.right) value)) ≡ (is_member l.left value || is_member l.right value);
}

abbrev pub decreases-loop-i : goal.decreases-loop-i
decreases-loop-i l = (length l.left - l.i) + (length l.right - l.j)
