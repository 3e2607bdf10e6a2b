-- The set of a test is the set of the values that pass it.
use Rattle.std.proofs.Common.{◌≡◌, ℕ, zero, suc, ◌+◌, ◌^◌, ◌<◌, ◌≤◌, Bool, true, false, cond, nat_le, nat_lt, nat_eq, ◌&&◌, ◌||◌, List, [], ◌∷◌, refl, sym, ap, ◌∙◌, subst, arith}
use Rattle.std.proofs.lemmas.Bool.Decides.{nat_tests}
use Rattle.sn_width.specs.Width.{FitsWidth}
use Rattle.sn_ranges.specs.Ranges.{Range, RangeSet, IsSetOf, IsCanonical, AscendFrom, in_range, is_member, fits_width}
use Rattle.sn_ranges.specs.Sets.{with_number, ranges_from, ranges_where, set_of}
use Rattle.sn_ranges.proofs.RangesLemmas.{AscendFrom-weaker}
use Rattle.sn_ranges.proofs.SameSet.{one_list}

chosen_ascends : (n : ℕ) (r : Range) (rest : List Range) (b : Bool) → nat_eq r.0 (suc n) ≡ b → AscendFrom (suc n) (r ∷ rest) → AscendFrom n (cond b ((n, r.1) ∷ rest) ((n, n) ∷ r ∷ rest))
chosen_ascends n r rest true e h = (omega arith, omega (arith, h.0, h.1), h.2)
chosen_ascends n r rest false e h =
    let apart : n + 2 ≤ r.0 = grind (arith, nat_tests, h.0) in
    (omega arith, omega arith, (apart, h.1, h.2))

with_number-ascends : (n : ℕ) (ranges : List Range) → AscendFrom (suc n) ranges → AscendFrom n (with_number n ranges)
with_number-ascends n [] h = (omega arith, omega arith, tt)
with_number-ascends n (r ∷ rest) h = chosen_ascends n r rest (nat_eq r.0 (suc n)) refl h

chosen_member : (n v : ℕ) (r : Range) (rest : List Range) (b : Bool) → nat_eq r.0 (suc n) ≡ b → AscendFrom (suc n) (r ∷ rest)
    → is_member (cond b ((n, r.1) ∷ rest) ((n, n) ∷ r ∷ rest)) v ≡ (nat_eq n v || is_member (r ∷ rest) v)
unfolding is_member in_range
chosen_member n v r rest true e h =
    let from : r.0 ≡ suc n = grind (arith, nat_tests) in
    let to : r.0 ≤ r.1 = h.1 in
    grind (arith, nat_tests)
chosen_member n v r rest false e h = grind (arith, nat_tests)

with_number-member : (n v : ℕ) (ranges : List Range) → AscendFrom (suc n) ranges → is_member (with_number n ranges) v ≡ (nat_eq n v || is_member ranges v)
unfolding is_member in_range
with_number-member n v [] h = grind (arith, nat_tests)
with_number-member n v (r ∷ rest) h = chosen_member n v r rest (nat_eq r.0 (suc n)) refl h

branch-ascends : (n : ℕ) (ranges : List Range) (b : Bool) → AscendFrom (suc n) ranges → AscendFrom n (cond b (with_number n ranges) ranges)
branch-ascends n ranges true h = with_number-ascends n ranges h
branch-ascends n ranges false h = AscendFrom-weaker n (suc n) ranges (omega arith) h

ranges_from-ascends : (test : ℕ → Bool) (first count : ℕ) → AscendFrom first (ranges_from test first count)
unfolding ranges_from
ranges_from-ascends test first zero = tt
ranges_from-ascends test first (suc count) = branch-ascends first (ranges_from test (suc first) count) (test first) (ranges_from-ascends test (suc first) count)

-- the number is one of `count` numbers from the first on, and passes the test
abbrev passes : (ℕ → Bool) → ℕ → ℕ → ℕ → Bool
passes test first count v = nat_le first v && (nat_lt v (first + count) && test v)

passes-none : (test : ℕ → Bool) (first v : ℕ) → false ≡ passes test first zero v
passes-none test first v = grind (arith, nat_tests)

passes-here : (test : ℕ → Bool) (first count v : ℕ) (b : Bool) → nat_eq first v ≡ b → test first ≡ true → (nat_eq first v || passes test (suc first) count v) ≡ passes test first (suc count) v
passes-here test first count v true e h =
    let same : first ≡ v = grind (arith, nat_tests) in
    let holds : test v ≡ true = subst (λ n. test n ≡ true) same h in
    grind (arith, nat_tests)
passes-here test first count v false e h = grind (arith, nat_tests)

passes-not : (test : ℕ → Bool) (first count v : ℕ) (b : Bool) → nat_eq first v ≡ b → test first ≡ false → passes test (suc first) count v ≡ passes test first (suc count) v
passes-not test first count v true e h =
    let same : first ≡ v = grind (arith, nat_tests) in
    let fails : test v ≡ false = subst (λ n. test n ≡ false) same h in
    grind (arith, nat_tests)
passes-not test first count v false e h = grind (arith, nat_tests)

branch-member : (test : ℕ → Bool) (first count v : ℕ) (ranges : List Range) (b : Bool) → test first ≡ b → AscendFrom (suc first) ranges → is_member ranges v ≡ passes test (suc first) count v
    → is_member (cond b (with_number first ranges) ranges) v ≡ passes test first (suc count) v
branch-member test first count v ranges true e ascends h =
    with_number-member first v ranges ascends ∙ ap (λ x. nat_eq first v || x) h ∙ passes-here test first count v (nat_eq first v) refl e
branch-member test first count v ranges false e ascends h = h ∙ passes-not test first count v (nat_eq first v) refl e

ranges_from-member : (test : ℕ → Bool) (first count v : ℕ) → is_member (ranges_from test first count) v ≡ passes test first count v
unfolding ranges_from is_member
ranges_from-member test first zero v = passes-none test first v
ranges_from-member test first (suc count) v =
    branch-member test first count v (ranges_from test (suc first) count) (test first) refl (ranges_from-ascends test (suc first) count) (ranges_from-member test (suc first) count v)

passes-all : (test : ℕ → Bool) (n v : ℕ) → passes test 0 n v ≡ (nat_lt v n && test v)
passes-all test n v = grind (arith, nat_tests)

-- a number is in the ranges exactly where it is a value of the width that passes the test
pub ranges_where-member : (w : ℕ) (test : ℕ → Bool) (v : ℕ) → is_member (ranges_where w test) v ≡ (fits_width w v && test v)
unfolding ranges_where
ranges_where-member w test v = ranges_from-member test 0 (2 ^ w) v ∙ passes-all test (2 ^ w) v

first_part : (v n : ℕ) (b : Bool) → (nat_lt v n && b) ≡ true → v < n
first_part v n b h = grind (arith, nat_tests)

other_part : (v n : ℕ) (b : Bool) → v < n → (nat_lt v n && b) ≡ b
other_part v n b l = grind (arith, nat_tests)

ranges_where-ascends : (w : ℕ) (test : ℕ → Bool) → AscendFrom 0 (ranges_where w test)
unfolding ranges_where
ranges_where-ascends w test = ranges_from-ascends test 0 (2 ^ w)

pub set_of-is : (w : ℕ) (test : ℕ → Bool) → IsSetOf w (λ x. fits_width w x && test x) (set_of w test)
set_of-is w test = record {
  same_width = refl;
  canonical = record {
    ascending = ranges_where-ascends w test;
    fits = λ v h. first_part v (2 ^ w) (test v) (sym (ranges_where-member w test v) ∙ h);
  };
  members = ranges_where-member w test;
}

pub set_of-members : (w : ℕ) (test : ℕ → Bool) (v : ℕ) → FitsWidth w v → is_member (ranges_where w test) v ≡ test v
set_of-members w test v fits = ranges_where-member w test v ∙ other_part v (2 ^ w) (test v) fits

-- a set of the width with the same values is the same set
equal_set : (w : ℕ) (test : ℕ → Bool) (set : RangeSet) → set.width ≡ w → IsCanonical set.width set.pairs → ((v : ℕ) → FitsWidth w v → is_member set.pairs v ≡ test v) → set ≡ set_of w test
equal_set w test set width canonical members =
    one_list set (set_of w test) canonical (set_of-is w test).canonical width
    (λ v fits. let here : FitsWidth w v = subst (λ k. FitsWidth k v) width fits in members v here ∙ sym (set_of-members w test v here))

pub set_of-only : (w : ℕ) (test : ℕ → Bool) (set : RangeSet) → IsSetOf w test set → set ≡ set_of w test
set_of-only w test set is = equal_set w test set is.same_width is.canonical (λ v fits. is.members v)

-- the test may pass numbers past the width
pub set_of-within : (w : ℕ) (test : ℕ → Bool) (set : RangeSet) → IsSetOf w (λ x. fits_width w x && test x) set → set ≡ set_of w test
set_of-within w test set is = equal_set w test set is.same_width is.canonical (λ v fits. is.members v ∙ other_part v (2 ^ w) (test v) fits)

pub set_of-same : (w : ℕ) (test other : ℕ → Bool) → ((v : ℕ) → FitsWidth w v → test v ≡ other v) → set_of w test ≡ set_of w other
set_of-same w test other same = equal_set w other (set_of w test) refl (set_of-is w test).canonical (λ v fits. set_of-members w test v fits ∙ same v fits)
