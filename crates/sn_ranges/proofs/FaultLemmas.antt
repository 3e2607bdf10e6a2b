use Rattle.std.proofs.Common.{◌≡◌, ℕ, ◌^◌, ◌≤◌, Bool, true, false, cond, not, List, length, Option, Some, None, All, refl, sym, ap, ap₂, ◌∙◌, arith, inl, inr}
use Rattle.std.proofs.lemmas.Bool.{cases_lt, lt-ltb, le-ltb, not-true, ltb-false, both_ways}
use Rattle.std.proofs.lemmas.List.Sums.{prefix_len_passes, position_or_len_is}
use Rattle.std.proofs.lemmas.Nat.{pow_pos}
use Rattle.std.specs.List.{position, position_or_len}
use Rattle.sn_width.specs.Width.{max_value, FitsWidth}
use Rattle.sn_ranges.specs.Ranges.{Range, is_member}
use Rattle.sn_ranges.specs.Faults.{is_reversed, is_past, fault_at, fault_of}
use Rattle.sn_ranges.proofs.RangesLemmas.{is_member-outside}

-- no pair passes a test exactly where there is no first one
position-None : (p : Range → Bool) (xs : List Range) → position p xs ≡ None → All (λ x. p x ≡ false) xs
position-None p xs e = elim (cases_lt (position_or_len p xs) (length xs)) [
  | inl lt ↦
      let found : Some (position_or_len p xs) ≡ None = ap (λ b. cond b (Some (position_or_len p xs)) None) (sym (lt-ltb _ _ lt)) ∙ e in
      absurd (cc)
  | inr ge ↦ λ k d hk. not-true _ (prefix_len_passes (λ x. not (p x)) xs k d (omega arith))
]

None-position : (p : Range → Bool) (xs : List Range) → All (λ x. p x ≡ false) xs → position p xs ≡ None
None-position p xs h =
    let len : position_or_len p xs ≡ length xs = position_or_len_is p xs (length xs) (0, 0) (omega arith) (λ k hk. h k (0, 0) hk) (λ lt. absurd (omega arith)) in
    ap (λ b. cond b (Some (position_or_len p xs)) None) (le-ltb (position_or_len p xs) (length xs) (omega arith))

fault_at-None : (reversed past : Option ℕ) → fault_at reversed past ≡ None → (reversed ≡ None) × (past ≡ None)
fault_at-None (Some i) past e = absurd (cc)
fault_at-None None (Some i) e = absurd (cc)
fault_at-None None None e = (refl, refl)

-- the pair is a range of values of the width
abbrev pub IsRangeOf : ℕ → Range → Type 0
IsRangeOf width pair = (pair.0 ≤ pair.1) × FitsWidth width pair.1

pub fault_of-None : (width : ℕ) (pairs : List Range) → fault_of width pairs ≡ None → All (IsRangeOf width) pairs
fault_of-None width pairs e = λ k d hk.
    let none = fault_at-None _ _ e in
    let ordered = ltb-false _ _ (position-None is_reversed pairs none.0 k d hk) in
    let fits = ltb-false _ _ (position-None (is_past (max_value width)) pairs none.1 k d hk) in
    (ordered, omega (arith, pow_pos width))

pub None-fault_of : (width : ℕ) (pairs : List Range) → All (IsRangeOf width) pairs → fault_of width pairs ≡ None
None-fault_of width pairs h =
    ap₂ fault_at
    (None-position is_reversed pairs (λ k d hk. le-ltb _ _ (h k d hk).0))
    (None-position (is_past (max_value width)) pairs (λ k d hk. le-ltb _ _ (omega (arith, (h k d hk).1))))

-- a member of ranges of values of the width is one
pub member_fits : (width : ℕ) (pairs : List Range) → All (IsRangeOf width) pairs → (v : ℕ) → is_member pairs v ≡ true → FitsWidth width v
member_fits width pairs h v t = elim (cases_lt v (2 ^ width)) [
  | inl lt ↦ lt
  | inr past ↦ absurd (both_ways _ (is_member-outside pairs v (λ k hk. inr (omega (arith, (h k (0, 0) hk).1)))) t)
]
