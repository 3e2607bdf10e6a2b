-- The common packets of two boxes.
use Rattle.std.proofs.Common.{◌≡◌, refl, ℕ, ◌-◌, ◌^◌, ◌<◌, ◌≤◌, max, min, nat_le, true, ◌&&◌, List, [], ◌∷◌, map, arith}
use Rattle.std.proofs.lemmas.Bool.Decides.{nat_tests}
use Rattle.acl_rules.specs.Packets.{AllFit, AreRanges, IsPacket, Range, field_bits, is_in, lies_in, meets, overlaps}
use Rattle.acl_rules.specs.Comparing.{all_packets, common, shared}
use Rattle.acl_rules.proofs.Boxes.{and_left, and_right, both}

lies_in_both : (a b c d n : ℕ) → (nat_le a n && nat_le n b) ≡ true → (nat_le c n && nat_le n d) ≡ true → (nat_le (max a c) n && nat_le n (min b d)) ≡ true
lies_in_both a b c d n h k = grind (arith, nat_tests)

lies_in_one : (a b c d n : ℕ) → (nat_le (max a c) n && nat_le n (min b d)) ≡ true → (nat_le a n && nat_le n b) ≡ true
lies_in_one a b c d n h = grind (arith, nat_tests)

lies_in_other : (a b c d n : ℕ) → (nat_le (max a c) n && nat_le n (min b d)) ≡ true → (nat_le c n && nat_le n d) ≡ true
lies_in_other a b c d n h = grind (arith, nat_tests)

overlap_by : (a b c d n : ℕ) → (nat_le a n && nat_le n b) ≡ true → (nat_le c n && nat_le n d) ≡ true → (nat_le a d && nat_le c b) ≡ true
overlap_by a b c d n h k = grind (arith, nat_tests)

not_empty : (a b c d : ℕ) → a ≤ b → c ≤ d → (nat_le a d && nat_le c b) ≡ true → max a c ≤ min b d
not_empty a b c d h k m = grind (arith, nat_tests)

within : (b d w : ℕ) → b < w → min b d < w
within b d w h = grind arith

-- a packet of both is one of the common ones
pub in_common : (one other : List Range) (packet : List ℕ) → is_in one packet ≡ true → is_in other packet ≡ true → is_in (common one other) packet ≡ true
in_common [] other packet i k = i
in_common (r ∷ rs) [] packet i k = k
in_common (r ∷ rs) (s ∷ ss) [] i k = cc
in_common (r ∷ rs) (s ∷ ss) (n ∷ ns) i k =
    both (lies_in (shared r s) n) (is_in (common rs ss) ns)
    (lies_in_both r.0 r.1 s.0 s.1 n (and_left (lies_in r n) (is_in rs ns) i) (and_left (lies_in s n) (is_in ss ns) k))
    (in_common rs ss ns (and_right (lies_in r n) (is_in rs ns) i) (and_right (lies_in s n) (is_in ss ns) k))

-- and the boxes meet
pub meet_by : (one other : List Range) (packet : List ℕ) → is_in one packet ≡ true → is_in other packet ≡ true → meets one other ≡ true
meet_by [] [] packet i k = refl
meet_by [] (s ∷ ss) [] i k = cc
meet_by [] (s ∷ ss) (n ∷ ns) i k = cc
meet_by (r ∷ rs) [] [] i k = cc
meet_by (r ∷ rs) [] (n ∷ ns) i k = cc
meet_by (r ∷ rs) (s ∷ ss) [] i k = cc
meet_by (r ∷ rs) (s ∷ ss) (n ∷ ns) i k =
    both (overlaps r s) (meets rs ss)
    (overlap_by r.0 r.1 s.0 s.1 n (and_left (lies_in r n) (is_in rs ns) i) (and_left (lies_in s n) (is_in ss ns) k))
    (meet_by rs ss ns (and_right (lies_in r n) (is_in rs ns) i) (and_right (lies_in s n) (is_in ss ns) k))

-- the common packets of boxes that meet are packets of both
pub in_one : (one other : List Range) (packet : List ℕ) → meets one other ≡ true → is_in (common one other) packet ≡ true → is_in one packet ≡ true
in_one [] other packet m i = i
in_one (r ∷ rs) [] packet m i = cc
in_one (r ∷ rs) (s ∷ ss) [] m i = cc
in_one (r ∷ rs) (s ∷ ss) (n ∷ ns) m i =
    both (lies_in r n) (is_in rs ns)
    (lies_in_one r.0 r.1 s.0 s.1 n (and_left (lies_in (shared r s) n) (is_in (common rs ss) ns) i))
    (in_one rs ss ns (and_right (overlaps r s) (meets rs ss) m) (and_right (lies_in (shared r s) n) (is_in (common rs ss) ns) i))

pub in_other : (one other : List Range) (packet : List ℕ) → meets one other ≡ true → is_in (common one other) packet ≡ true → is_in other packet ≡ true
in_other [] [] packet m i = i
in_other [] (s ∷ ss) packet m i = cc
in_other (r ∷ rs) [] packet m i = cc
in_other (r ∷ rs) (s ∷ ss) [] m i = cc
in_other (r ∷ rs) (s ∷ ss) (n ∷ ns) m i =
    both (lies_in s n) (is_in ss ns)
    (lies_in_other r.0 r.1 s.0 s.1 n (and_left (lies_in (shared r s) n) (is_in (common rs ss) ns) i))
    (in_other rs ss ns (and_right (overlaps r s) (meets rs ss) m) (and_right (lies_in (shared r s) n) (is_in (common rs ss) ns) i))

pub common_box : (bits : List ℕ) (one other : List Range) → AreRanges bits one → AreRanges bits other → meets one other ≡ true → AreRanges bits (common one other)
common_box [] [] other a b m = tt
common_box [] (r ∷ rs) other a b m = absurd a
common_box (w ∷ ws) [] other a b m = absurd a
common_box (w ∷ ws) (r ∷ rs) [] a b m = absurd b
common_box (w ∷ ws) (r ∷ rs) (s ∷ ss) a b m = (
  not_empty r.0 r.1 s.0 s.1 a.0 b.0 (and_left (overlaps r s) (meets rs ss) m),
  within r.1 s.1 (2 ^ w) a.1,
  common_box ws rs ss a.2 b.2 (and_right (overlaps r s) (meets rs ss) m),
)

fits_all : (n w : ℕ) → n < w → (nat_le 0 n && nat_le n (w - 1)) ≡ true
fits_all n w h = grind (arith, nat_tests)

in_widths : (bits packet : List ℕ) → AllFit bits packet → is_in (map (λ w. (0, 2 ^ w - 1)) bits) packet ≡ true
in_widths [] [] h = refl
in_widths [] (n ∷ ns) h = absurd h
in_widths (w ∷ ws) [] h = absurd h
in_widths (w ∷ ws) (n ∷ ns) h =
    both (lies_in (0, 2 ^ w - 1) n) (is_in (map (λ w. (0, 2 ^ w - 1)) ws) ns) (fits_all n (2 ^ w) h.0) (in_widths ws ns h.1)

pub in_all : (packet : List ℕ) → IsPacket packet → is_in all_packets packet ≡ true
in_all packet h = in_widths field_bits packet h
