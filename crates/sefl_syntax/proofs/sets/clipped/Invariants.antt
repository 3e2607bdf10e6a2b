use Rattle.std.proofs.Common.{◌≡◌, ℕ, ◌<◌, ◌^◌, take}
use Rattle.std.specs.List.{AllByRecursion}
use Rattle.sn_ranges.specs.Ranges.{is_member}
use Rattle.sefl_syntax.specs.Clipped.{IsGoodPair}
use Rattle.sefl_syntax.proofs.sets.clipped.Given as goal

abbrev pub invariant-loop-range : goal.invariant-loop-range
invariant-loop-range l = record {
  fit : AllByRecursion (IsGoodPair l.width) l.kept.items;
  members : (value : ℕ) → value < 2 ^ l.width → is_member l.kept.items value ≡ is_member (take l.range-index l.ranges) value;
}
