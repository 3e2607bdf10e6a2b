use Rattle.std.proofs.Common.{◌≡◌, ℕ, ◌+◌, ◌-◌, ◌<◌, ◌≤◌, ◌||◌, false, drop, sym, ap, ◌∙◌, arith}
use Rattle.sn_ranges.specs.Ranges.{Range, in_range, is_member, last_start}
use Rattle.sn_ranges.proofs.RangesLemmas.{range_at, in_range_tells, or_assoc, or-false, is_member-nil, is_member-drop, is_member-past, last_start-nil, AscendFrom-same, AscendFrom-ordered, AscendFrom-gap}
use Rattle.sn_ranges.proofs.shift.wrap.Goals as goal
use Rattle.sn_ranges.proofs.shift.wrap.Goals.{then-range-room+in_ok-append, else-range-room}

-- a range that ends at the number or later, lowered by it
lowered : (r : Range) (first by v : ℕ) → first ≡ r.0 - by → by ≤ r.1 → in_range (first, r.1 - by) v ≡ in_range r (v + by)
lowered r first by v is le = grind (arith, in_range_tells (first, r.1 - by) v, in_range_tells r (v + by))

-- a range that ends before the number
none_lowered : (r : Range) (by v : ℕ) → r.1 < by → in_range r (v + by) ≡ false
none_lowered r by v lt = grind (arith, in_range_tells r (v + by))

pub loop-range-init : goal.loop-range-init
loop-range-init c =
    let none = c.new-wrapped.ensures.items in
    let start : last_start 0 c.new-wrapped.result.items ≡ 0 = ap (last_start 0) none ∙ last_start-nil 0 in
    record {
      ascending = AscendFrom-same 0 _ _ (sym none) tt;
      later = λ _. omega arith;
      members = λ v. ap (λ l. is_member l v || is_member c.args.ranges.now (v + (c.args.room + 1))) none
          ∙ ap (λ b. b || is_member c.args.ranges.now (v + (c.args.room + 1))) (is_member-nil v);
    }

pub append-requires-clause-ordered : goal.append-requires-clause-ordered
append-requires-clause-ordered c = omega (arith, AscendFrom-ordered 0 _ _ c.requires c.loop-range-test.true)

pub append-requires-clause-later : goal.append-requires-clause-later
append-requires-clause-later c = omega (arith, c.loop-range.invariant.later c.loop-range-test.true)

pub loop-range-preserved : goal.loop-range-preserved
loop-range-preserved c =
    let rs = c.args.ranges.now in
    let k = c.loop-range.range-index in
    let r = range_at rs k in
    let hk = c.loop-range-test.true in
    let inv = c.loop-range.invariant in
    let start = c.args.room + 1 in
    let ordered = AscendFrom-ordered 0 rs k c.requires hk in
    record {
      ascending = elim c.if-range-room.branch [
        | then-range-room+in_ok-append w ↦ rw w.wrapped-is w.in_ok-append.ensures.ascending
        | else-range-room w ↦ rw w.wrapped-is inv.ascending
      ];
      later = λ more. let gap = AscendFrom-gap 0 rs k c.requires more in elim c.if-range-room.branch [
        | then-range-room+in_ok-append w ↦ rw w.wrapped-is (omega (arith, w.in_ok-append.ensures.start))
        | else-range-room w ↦ rw w.wrapped-is (omega (arith, inv.later hk))
      ];
      members = λ v.
          let old = is_member c.loop-range.wrapped.items v in
          let rest = is_member (drop (k + 1) rs) (v + start) in
          ap (λ b. b || rest) (elim c.if-range-room.branch [
            | then-range-room+in_ok-append w ↦ rw w.wrapped-is (w.in_ok-append.ensures.members v
                ∙ ap (λ b. old || b) (lowered r _ start v w.saturating_sub.ensures (omega arith)))
            | else-range-room w ↦ rw w.wrapped-is (sym (or-false old) ∙ ap (λ b. old || b) (sym (none_lowered r start v (omega arith))))
          ])
          ∙ sym (or_assoc old (in_range r (v + start)) rest)
          ∙ ap (λ b. old || b) (sym (is_member-drop rs k (v + start) hk))
          ∙ inv.members v;
    }

pub returns-clause-members : goal.returns-clause-members
returns-clause-members c =
    let rs = c.args.ranges.now in
    λ v. let past = is_member-past rs c.loop-range.range-index (v + (c.args.room + 1)) c.loop-range-test.false in
    sym (or-false _) ∙ ap (λ b. is_member c.loop-range.wrapped.items v || b) (sym past) ∙ c.loop-range.invariant.members v
