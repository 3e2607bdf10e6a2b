use Rattle.std.proofs.Common.{◌≡◌, ℕ, ◌+◌, ◌-◌, ◌<◌, ◌&&◌, ◌||◌, min, nat_le, Bool, true, false, drop, refl, sym, ap, ◌∙◌, arith}
use Rattle.std.proofs.lemmas.Bool.Decides.{nat_tests}
use Rattle.sn_ranges.specs.Ranges.{Range, in_range, is_member}
use Rattle.sn_ranges.proofs.RangesLemmas.{range_at, in_range_tells, or-false, is_member-drop, is_member-past, AscendFrom-ordered, AscendFrom-gap}
use Rattle.sn_ranges.proofs.shift.append_raised.Goals as goal
use Rattle.sn_ranges.proofs.shift.append_raised.Goals.{then-range-room+in_ok-append, else-range-room}

-- the part of a range up to the number, raised
raised : (r : Range) (last room by v : ℕ) → last ≡ min r.1 room → in_range (r.0 + by, last + by) v ≡ (nat_le by v && (nat_le v (room + by) && in_range r (v - by)))
raised r last room by v is = grind (arith, nat_tests, in_range_tells (r.0 + by, last + by) v, in_range_tells r (v - by))

-- a range that starts after the number
none_raised : (r : Range) (room by v : ℕ) → room < r.0 → (nat_le by v && (nat_le v (room + by) && in_range r (v - by))) ≡ false
none_raised r room by v lt = grind (arith, nat_tests, in_range_tells r (v - by))

both_tests : (old x y range rest : Bool) → ((old || (x && (y && range))) || (x && (y && rest))) ≡ (old || (x && (y && (range || rest))))
both_tests true x y range rest = refl
both_tests false false y range rest = refl
both_tests false true false range rest = refl
both_tests false true true range rest = refl

neither : (old x y : Bool) → (old || (x && (y && false))) ≡ old
neither true x y = refl
neither false false y = refl
neither false true false = refl
neither false true true = refl

pub append-requires-clause-ordered : goal.append-requires-clause-ordered
append-requires-clause-ordered c = grind (arith, AscendFrom-ordered 0 _ _ c.requires.ascending c.loop-range-test.true)

pub append-requires-clause-later : goal.append-requires-clause-later
append-requires-clause-later c = omega (arith, c.loop-range.invariant.later c.loop-range-test.true)

pub loop-range-preserved : goal.loop-range-preserved
loop-range-preserved c =
    let rs = c.args.ranges.now in
    let k = c.loop-range.range-index in
    let r = range_at rs k in
    let hk = c.loop-range-test.true in
    let inv = c.loop-range.invariant in
    let by = c.args.by in
    let room = c.args.room in
    let ordered = AscendFrom-ordered 0 rs k c.requires.ascending hk in
    record {
      ascending = elim c.if-range-room.branch [
        | then-range-room+in_ok-append w ↦ rw w.shifted-is w.in_ok-append.ensures.ascending
        | else-range-room w ↦ rw w.shifted-is inv.ascending
      ];
      later = λ more. let gap = AscendFrom-gap 0 rs k c.requires.ascending more in elim c.if-range-room.branch [
        | then-range-room+in_ok-append w ↦ rw w.shifted-is (omega (arith, w.in_ok-append.ensures.start))
        | else-range-room w ↦ rw w.shifted-is (omega (arith, inv.later hk))
      ];
      members = λ v.
          let old = is_member c.loop-range.shifted.items v in
          let x = nat_le by v in
          let y = nat_le v (room + by) in
          let rest = is_member (drop (k + 1) rs) (v - by) in
          ap (λ b. b || (x && (y && rest))) (elim c.if-range-room.branch [
            | then-range-room+in_ok-append w ↦ rw w.shifted-is (w.in_ok-append.ensures.members v
                ∙ ap (λ b. old || b) (raised r _ room by v w.min.ensures))
            | else-range-room w ↦ rw w.shifted-is (sym (or-false old) ∙ ap (λ b. old || b) (sym (none_raised r room by v w.if-range-room.false)))
          ])
          ∙ both_tests old x y (in_range r (v - by)) rest
          ∙ ap (λ b. old || (x && (y && b))) (sym (is_member-drop rs k (v - by) hk))
          ∙ inv.members v;
    }

pub returns-clause-members : goal.returns-clause-members
returns-clause-members c =
    let rs = c.args.ranges.now in
    λ v. let old = is_member c.loop-range.shifted.items v in
    let x = nat_le c.args.by v in
    let y = nat_le v (c.args.room + c.args.by) in
    sym (ap (λ b. old || (x && (y && b))) (is_member-past rs c.loop-range.range-index (v - c.args.by) c.loop-range-test.false) ∙ neither old x y)
    ∙ c.loop-range.invariant.members v
