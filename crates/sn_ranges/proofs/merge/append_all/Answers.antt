use Rattle.std.proofs.Common.{◌+◌, ◌||◌, drop, sym, ap, ◌∙◌}
use Rattle.sn_ranges.specs.Ranges.{in_range, is_member}
use Rattle.sn_ranges.proofs.RangesLemmas.{range_at, or_assoc, or-false, is_member-drop, is_member-past, StartFrom-at, StartFrom-weaker}
use Rattle.sn_ranges.proofs.merge.append_all.Goals as goal

pub loop-range-preserved : goal.loop-range-preserved
loop-range-preserved c =
    let more = c.args.more.now in
    let k = c.loop-range.range-index in
    let inv = c.loop-range.invariant in
    let added = c.in_ok-append.ensures in
    let here = StartFrom-at _ more k inv.later c.loop-range-test.true in
    record {
      ascending = added.ascending;
      later = StartFrom-weaker _ (range_at more k).0 (drop (k + 1) more) added.start here.2;
      members = λ v. ap (λ b. b || is_member (drop (k + 1) more) v) (added.members v)
          ∙ sym (or_assoc (is_member c.loop-range.ranges.items v) (in_range (range_at more k) v) (is_member (drop (k + 1) more) v))
          ∙ ap (λ b. is_member c.loop-range.ranges.items v || b) (sym (is_member-drop more k v c.loop-range-test.true))
          ∙ inv.members v;
    }

pub returns-clause-members : goal.returns-clause-members
returns-clause-members c =
    let more = c.args.more.now in
    let k = c.loop-range.range-index in
    λ v. sym (or-false _)
    ∙ ap (λ b. is_member c.loop-range.ranges.items v || b) (sym (is_member-past more k v c.loop-range-test.false))
    ∙ c.loop-range.invariant.members v
