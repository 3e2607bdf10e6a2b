-- The ranges of a set.
use Rattle.std.proofs.Common.{map, take, ◌++◌, ◌⊎◌, inl, inr, lt_trans, lt_of_le_of_lt, ◌≡◌, ℕ, zero, suc, ◌+◌, ◌^◌, ◌<◌, ◌≤◌, Bool, true, ◌&&◌, List, [], ◌∷◌, Some, ap, ◌∙◌, subst, arith}
use Rattle.std.specs.Prelude.{slice_get}
use Rattle.std.proofs.lemmas.Bool.Decides.{nat_tests}
use Rattle.std.proofs.lemmas.Nat.{pow_below}
use Rattle.sn_width.specs.Width.{FitsWidth}
use Rattle.sn_ranges.specs.Ranges.{Range, RangeSet, IsSetOf, IsCanonical, AscendFrom, in_range, is_member, fits_width}
use Rattle.sn_ranges.specs.Sets.{ranges_where}
use Rattle.sn_ranges.proofs.TestSets.{set_of-within}

first_end : (r : Range) (rest : List Range) → r.0 ≤ r.1 → is_member (r ∷ rest) r.1 ≡ true
unfolding is_member in_range
first_end r rest h = grind (arith, nat_tests)

later_end : (r : Range) (rest : List Range) (n : ℕ) → is_member rest n ≡ true → is_member (r ∷ rest) n ≡ true
unfolding is_member
later_end r rest n h = grind (arith, nat_tests)

ends : (ranges : List Range) (least i : ℕ) (r : Range) → AscendFrom least ranges → slice_get ranges i ≡ Some r → (r.0 ≤ r.1) × (is_member ranges r.1 ≡ true)
ends [] least i r h e = cc
ends (q ∷ rest) least zero r h e =
    let same : q ≡ r = cc in
    subst (λ (x : Range). (x.0 ≤ x.1) × (is_member (q ∷ rest) x.1 ≡ true)) same (h.1, first_end q rest h.1)
ends (q ∷ rest) least (suc i) r h e =
    let later = ends rest (q.1 + 2) i r h.2 e in
    (later.0, later_end q rest r.1 later.1)

-- the ends of a range are values of the width
pub ends_fit : (w : ℕ) (ranges : List Range) (i : ℕ) (r : Range) → IsCanonical w ranges → slice_get ranges i ≡ Some r → (r.0 ≤ r.1) × FitsWidth w r.1
ends_fit w ranges i r canonical e =
    let is = ends ranges 0 i r canonical.ascending e in
    (is.0, canonical.fits r.1 is.1)

one_more : {B : Type 0} (f : Range → B) (ranges : List Range) (i : ℕ) (r : Range) → slice_get ranges i ≡ Some r → map f (take (suc i) ranges) ≡ map f (take i ranges) ++ f r ∷ []
one_more f [] i r e = cc
one_more f (q ∷ ranges) zero r e = let same : q ≡ r = cc in ap (λ x. f x ∷ []) same
one_more f (q ∷ ranges) (suc i) r e = ap (λ xs. f q ∷ xs) (one_more f ranges i r e)

-- a range of a list, and those up to it
pub next_range : {B : Type 0} (f : Range → B) (ranges : List Range) (i : ℕ) (r : Range) → slice_get ranges i ≡ Some r → map f (take (i + 1) ranges) ≡ map f (take i ranges) ++ f r ∷ []
next_range f ranges i r e =
    let next : i + 1 ≡ suc i = omega arith in
    ap (λ n. map f (take n ranges)) next ∙ one_more f ranges i r e

-- the ranges of a set of values are those of its test
pub ranges_where-set : (w : ℕ) (test : ℕ → Bool) (set : RangeSet) → IsSetOf w (λ x. fits_width w x && test x) set → set.pairs ≡ ranges_where w test
ranges_where-set w test set h = ap (λ (s : RangeSet). s.pairs) (set_of-within w test set h)

le_cases : (w : ℕ) → w ≤ 64 → (w < 64) ⊎ (w ≡ 64)
le_cases w h = search (arith)

no_wider : (w n : ℕ) → w ≤ 64 → n < 2 ^ w → n < 2 ^ 64
no_wider w n narrow fits = elim (le_cases w narrow) [
  | inl below ↦ lt_trans fits (pow_below w 64 below)
  | inr same ↦ subst (λ k. n < 2 ^ k) same fits
]

-- the ends of a range of a set of at most 64 bits
pub ends_are_narrow : (w : ℕ) (ranges : List Range) (i : ℕ) (r : Range) → IsCanonical w ranges → w ≤ 64 → slice_get ranges i ≡ Some r → (r.0 < 2 ^ 64) × (r.1 < 2 ^ 64)
ends_are_narrow w ranges i r canonical narrow e =
    let is = ends_fit w ranges i r canonical e in
    let last : r.1 < 2 ^ 64 = no_wider w r.1 narrow is.1 in
    let order : r.0 ≤ r.1 = is.0 in
    (lt_of_le_of_lt order last, last)
