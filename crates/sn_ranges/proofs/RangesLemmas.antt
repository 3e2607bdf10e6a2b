use Rattle.std.proofs.Common.{◌≡◌, ℕ, zero, suc, ◌+◌, ◌<◌, ◌≤◌, Bool, true, false, cond, ◌||◌, ◌⊎◌, nat_le, nat_lt, List, [], ◌∷◌, ◌++◌, length, drop, sum_by, IsPermutation, refl, sym, ap, ap₂, ◌∙◌, arith, le_of_suc-le-suc, not-suc-le-zero, inl, inr, slice_index_or, subst, le_of_eq, All}
use Rattle.std.proofs.lemmas.Bool.{both_ways, cases_lt, le-leb, lt-leb, or_right}
use Rattle.std.proofs.lemmas.Bool.Decides.{nat_tests}
use Rattle.std.proofs.lemmas.List.{drop_more, drop_all}
use Rattle.std.proofs.lemmas.List.Elements.{All-head, All-tail}
use Rattle.std.proofs.lemmas.List.Recursion.{or_at, or_from_places}
use Rattle.std.proofs.lemmas.List.Sums.{sum_by-cons}
use Rattle.std.proofs.lemmas.List.Sorted.{sum_by-IsPermutation, IsNonDecreasingBy-from_default}
use Rattle.std.specs.List.Sorted.{IsNonDecreasingBy}
use Rattle.sn_ranges.specs.Ranges.{Range, in_range, is_member, AscendFrom, StartFrom, last_start, IsLeast}

-- the range at an index
abbrev pub range_at : List Range → ℕ → Range
range_at ranges k = slice_index_or ranges k (0, 0)

-- the test of a range, with what it tells
pub in_range_tells : (r : Range) (v : ℕ) → ((in_range r v ≡ true) × (r.0 ≤ v) × (v ≤ r.1)) ⊎ ((in_range r v ≡ false) × ((v < r.0) ⊎ (r.1 < v)))
unfolding in_range
in_range_tells r v = grind (arith, nat_tests)

pub is_member-nil : (v : ℕ) → is_member [] v ≡ false
unfolding is_member
is_member-nil v = refl

pub is_member-cons : (r : Range) (rs : List Range) (v : ℕ) → is_member (r ∷ rs) v ≡ (in_range r v || is_member rs v)
unfolding is_member
is_member-cons r rs v = refl

pub or_assoc : (x y z : Bool) → (x || (y || z)) ≡ ((x || y) || z)
or_assoc true y z = refl
or_assoc false y z = refl

pub or-false : (x : Bool) → (x || false) ≡ x
or-false true = refl
or-false false = refl

pub is_member-append : (xs ys : List Range) (v : ℕ) → is_member (xs ++ ys) v ≡ (is_member xs v || is_member ys v)
unfolding is_member
is_member-append [] ys v = refl
is_member-append (x ∷ xs) ys v =
    ap (λ b. in_range x v || b) (is_member-append xs ys v) ∙ or_assoc (in_range x v) (is_member xs v) (is_member ys v)

pub is_member-push : (xs : List Range) (r : Range) (v : ℕ) → is_member (xs ++ r ∷ []) v ≡ (is_member xs v || in_range r v)
unfolding is_member
is_member-push xs r v =
    is_member-append xs (r ∷ []) v ∙ ap (λ b. is_member xs v || b) (or-false (in_range r v))

-- the ranges from an index on: the one there, and those after it
pub is_member-drop : (rs : List Range) (i v : ℕ) → i < length rs → is_member (drop i rs) v ≡ (in_range (range_at rs i) v || is_member (drop (i + 1) rs) v)
is_member-drop rs i v h = ap (λ l. is_member l v) (drop_more rs i (0, 0) h) ∙ is_member-cons (range_at rs i) (drop (i + 1) rs) v

pub is_member-at : (rs : List Range) (k v : ℕ) → k < length rs → in_range (range_at rs k) v ≡ true → is_member rs v ≡ true
unfolding is_member
is_member-at rs k v h t = or_at (λ l. is_member l v) (λ r. in_range r v) refl (λ _ _. refl) rs k (0, 0) h t

-- no range holds a number that lies below the start or above the end of each
pub is_member-outside : (rs : List Range) (v : ℕ) → ((k : ℕ) → k < length rs → (v < (range_at rs k).0) ⊎ ((range_at rs k).1 < v)) → is_member rs v ≡ false
unfolding is_member
is_member-outside rs v h =
    or_from_places (λ l. is_member l v) (λ r. in_range r v) refl (λ _ _. refl) rs (0, 0)
    (λ k hk. grind (arith, in_range_tells (range_at rs k) v, h k hk))

-- how many of the ranges hold the number
abbrev hits : ℕ → List Range → ℕ
hits v rs = sum_by (λ r. cond (in_range r v) 1 0) rs

or-nat_lt : (b : Bool) (n : ℕ) → (b || nat_lt 0 n) ≡ nat_lt 0 (cond b 1 0 + n)
or-nat_lt true n = grind (arith, nat_tests)
or-nat_lt false n = grind (arith, nat_tests)

is_member-hits : (rs : List Range) (v : ℕ) → is_member rs v ≡ nat_lt 0 (hits v rs)
unfolding is_member
is_member-hits [] v = refl
is_member-hits (r ∷ rs) v =
    ap (λ b. in_range r v || b) (is_member-hits rs v) ∙ or-nat_lt (in_range r v) (hits v rs)
    ∙ ap (nat_lt 0) (sym (sum_by-cons (λ x. cond (in_range x v) 1 0) r rs))

pub is_member-IsPermutation : (xs ys : List Range) (v : ℕ) → IsPermutation xs ys → is_member ys v ≡ is_member xs v
is_member-IsPermutation xs ys v h =
    is_member-hits ys v
    ∙ ap (nat_lt 0) (sum_by-IsPermutation (λ r. cond (in_range r v) 1 0) xs ys h)
    ∙ sym (is_member-hits xs v)

-- ascending ranges

pub AscendFrom-weaker : (m n : ℕ) (rs : List Range) → m ≤ n → AscendFrom n rs → AscendFrom m rs
AscendFrom-weaker m n [] le h = tt
AscendFrom-weaker m n (r ∷ rs) le h = (omega arith, h.1, h.2)

pub AscendFrom-drop : (n : ℕ) (rs : List Range) (i : ℕ) → AscendFrom n rs → AscendFrom n (drop i rs)
AscendFrom-drop n rs zero h = h
AscendFrom-drop n [] (suc i) h = tt
AscendFrom-drop n (r ∷ rs) (suc i) h = AscendFrom-drop n rs i (AscendFrom-weaker n (r.1 + 2) rs (omega arith) h.2)

-- the ranges from an index on: what holds of the one there, and of those after it
pub AscendFrom-at : (n : ℕ) (rs : List Range) (i : ℕ) → AscendFrom n (drop i rs) → i < length rs →
    (n ≤ (range_at rs i).0) × ((range_at rs i).0 ≤ (range_at rs i).1) × AscendFrom ((range_at rs i).1 + 2) (drop (i + 1) rs)
AscendFrom-at n rs i h hi = rw (drop_more rs i (0, 0) hi) at h

pub AscendFrom-start : (n : ℕ) (rs : List Range) (k : ℕ) → AscendFrom n rs → k < length rs → n ≤ (range_at rs k).0
AscendFrom-start n [] k h hk = absurd (not-suc-le-zero hk)
AscendFrom-start n (r ∷ rs) zero h hk = h.0
AscendFrom-start n (r ∷ rs) (suc k) h hk =
    let rest = AscendFrom-start (r.1 + 2) rs k h.2 (le_of_suc-le-suc hk) in omega arith

-- each range starts two past the end of each one before it at least
pub AscendFrom-apart : (n : ℕ) (rs : List Range) (i j : ℕ) → AscendFrom n rs → i < j → j < length rs → (range_at rs i).1 + 2 ≤ (range_at rs j).0
AscendFrom-apart n [] i j h lt hj = absurd (not-suc-le-zero hj)
AscendFrom-apart n (r ∷ rs) i zero h lt hj = absurd (not-suc-le-zero lt)
AscendFrom-apart n (r ∷ rs) zero (suc j) h lt hj = AscendFrom-start (r.1 + 2) rs j h.2 (le_of_suc-le-suc hj)
AscendFrom-apart n (r ∷ rs) (suc i) (suc j) h lt hj =
    AscendFrom-apart (r.1 + 2) rs i j h.2 (le_of_suc-le-suc lt) (le_of_suc-le-suc hj)

pub AscendFrom-gap : (n : ℕ) (rs : List Range) (i : ℕ) → AscendFrom n rs → i + 1 < length rs → (range_at rs i).1 + 2 ≤ (range_at rs (i + 1)).0
AscendFrom-gap n rs i h hi = AscendFrom-apart n rs i (i + 1) h (omega arith) hi

pub AscendFrom-ordered : (n : ℕ) (rs : List Range) (i : ℕ) → AscendFrom n rs → i < length rs → (range_at rs i).0 ≤ (range_at rs i).1
AscendFrom-ordered n rs i h hi = (AscendFrom-at n rs i (AscendFrom-drop n rs i h) hi).1

-- no range holds a number before the first start
pub is_member-below : (n : ℕ) (rs : List Range) (v : ℕ) → AscendFrom n rs → v < n → is_member rs v ≡ false
is_member-below n [] v h lt = is_member-nil v
is_member-below n (r ∷ rs) v h lt =
    let outside : in_range r v ≡ false = grind (arith, in_range_tells r v) in
    is_member-cons r rs v ∙ ap₂ ◌||◌ outside (is_member-below (r.1 + 2) rs v h.2 (omega arith))

pub StartFrom-weaker : (m n : ℕ) (rs : List Range) → m ≤ n → StartFrom n rs → StartFrom m rs
StartFrom-weaker m n [] le h = tt
StartFrom-weaker m n (r ∷ rs) le h = (omega arith, h.1, h.2)

pub StartFrom-ascending : (n : ℕ) (rs : List Range) → AscendFrom n rs → StartFrom n rs
StartFrom-ascending n [] h = tt
StartFrom-ascending n (r ∷ rs) h =
    (h.0, h.1, StartFrom-ascending r.0 rs (AscendFrom-weaker r.0 (r.1 + 2) rs (omega arith) h.2))

pub StartFrom-at : (n : ℕ) (rs : List Range) (i : ℕ) → StartFrom n (drop i rs) → i < length rs →
    (n ≤ (range_at rs i).0) × ((range_at rs i).0 ≤ (range_at rs i).1) × StartFrom (range_at rs i).0 (drop (i + 1) rs)
StartFrom-at n rs i h hi = rw (drop_more rs i (0, 0) hi) at h

-- two past the end of the last range, or the number where there is none
unfoldable pub next_free : ℕ → List Range → ℕ
next_free n [] = n
next_free n (r ∷ rs) = next_free (r.1 + 2) rs

pub next_free-nil : (n : ℕ) → next_free n [] ≡ n
unfolding next_free
next_free-nil n = refl

pub next_free-push : (n : ℕ) (xs : List Range) (r : Range) → next_free n (xs ++ r ∷ []) ≡ r.1 + 2
unfolding next_free
next_free-push n [] r = refl
next_free-push n (x ∷ xs) r = next_free-push (x.1 + 2) xs r

pub last_start-nil : (n : ℕ) → last_start n [] ≡ n
unfolding last_start
last_start-nil n = refl

pub last_start-push : (n : ℕ) (xs : List Range) (r : Range) → last_start n (xs ++ r ∷ []) ≡ r.0
unfolding last_start
last_start-push n [] r = refl
last_start-push n (x ∷ xs) r = last_start-push x.0 xs r

pub AscendFrom-push : (n : ℕ) (xs : List Range) (r : Range) → AscendFrom n xs → next_free n xs ≤ r.0 → r.0 ≤ r.1 → AscendFrom n (xs ++ r ∷ [])
unfolding next_free
AscendFrom-push n [] r h free le = (free, le, tt)
AscendFrom-push n (x ∷ xs) r h free le = (h.0, h.1, AscendFrom-push (x.1 + 2) xs r h.2 free le)

pub AscendFrom-last : (n : ℕ) (xs : List Range) (r : Range) → AscendFrom n (xs ++ r ∷ []) → AscendFrom n xs × (next_free n xs ≤ r.0) × (r.0 ≤ r.1)
unfolding next_free
AscendFrom-last n [] r h = (tt, h.0, h.1)
AscendFrom-last n (x ∷ xs) r h =
    let rest = AscendFrom-last (x.1 + 2) xs r h.2 in ((h.0, h.1, rest.0), rest.1, rest.2)

pub AscendFrom-same : (n : ℕ) (xs ys : List Range) → xs ≡ ys → AscendFrom n xs → AscendFrom n ys
AscendFrom-same n xs ys e h = subst (λ (l : List Range). AscendFrom n l) e h

pub is_member-past : (rs : List Range) (i v : ℕ) → length rs ≤ i → is_member (drop i rs) v ≡ false
is_member-past rs i v h = ap (λ l. is_member l v) (drop_all i rs h) ∙ is_member-nil v

pub StartFrom-raise : (m n : ℕ) (rs : List Range) (i : ℕ) → i < length rs → m ≤ (range_at rs i).0 → StartFrom n (drop i rs) → StartFrom m (drop i rs)
StartFrom-raise m n rs i hi le h =
    let at = StartFrom-at n rs i h hi in
    rw (drop_more rs i (0, 0) hi) (le, at.1, at.2)

-- a member of a range is none of ranges that start after its end
pub passed : (r : Range) (n : ℕ) (rs : List Range) (v : ℕ) → r.1 < n → AscendFrom n rs → in_range r v ≡ true → is_member rs v ≡ false
passed r n rs v lt h t = is_member-below n rs v h (grind (arith, in_range_tells r v))

-- of two ranges in order, both ends are in order
pub AscendFrom-mono : (n : ℕ) (rs : List Range) (i j : ℕ) → AscendFrom n rs → i ≤ j → j < length rs → ((range_at rs i).0 ≤ (range_at rs j).0) × ((range_at rs i).1 ≤ (range_at rs j).1)
AscendFrom-mono n rs i j h le hj = elim (cases_lt i j) [
  | inl lt ↦
      let apart = AscendFrom-apart n rs i j h lt hj in
      let at_i = AscendFrom-ordered n rs i h (omega arith) in
      let at_j = AscendFrom-ordered n rs j h hj in
      (omega arith, omega arith)
  | inr ge ↦ let same : i ≡ j = omega arith in
      (le_of_eq (ap (λ k. (range_at rs k).0) same), le_of_eq (ap (λ k. (range_at rs k).1) same))
]

-- the number lies in the first range that does not end before it, or in none
pub is_member-from : (n : ℕ) (rs : List Range) (i v : ℕ) → AscendFrom n rs → ((k : ℕ) → k < i → (range_at rs k).1 < v) → i < length rs → v ≤ (range_at rs i).1 → is_member rs v ≡ nat_le (range_at rs i).0 v
is_member-from n rs i v h before hi upto = elim (cases_lt v (range_at rs i).0) [
  | inl lt ↦
      is_member-outside rs v (λ k hk. elim (cases_lt k i) [
        | inl earlier ↦ inr (before k earlier)
        | inr later ↦ inl (omega (arith, (AscendFrom-mono n rs i k h later hk).0))
      ])
      ∙ sym (lt-leb _ _ lt)
  | inr le ↦
      is_member-at rs i v hi (grind (arith, in_range_tells (range_at rs i) v)) ∙ sym (le-leb _ _ le)
]

-- the start of the first range is the least member
pub first_is_least : (n : ℕ) (rs : List Range) → AscendFrom n rs → 0 < length rs → IsLeast rs (range_at rs 0).0
first_is_least n rs h some =
    let at = AscendFrom-ordered n rs 0 h some in
    record {
      member = is_member-at rs 0 _ some (grind (arith, in_range_tells (range_at rs 0) (range_at rs 0).0));
      least = λ v t. elim (cases_lt v (range_at rs 0).0) [
        | inl lt ↦ absurd (both_ways _ (is_member-outside rs v (λ k hk. inl (omega (arith, (AscendFrom-mono n rs 0 k h (omega arith) hk).0)))) t)
        | inr le ↦ le
      ];
    }

pub ends_rise : (rs : List Range) → AscendFrom 0 rs → IsNonDecreasingBy (λ (r : Range). r.1) rs
ends_rise rs h = IsNonDecreasingBy-from_default (λ (r : Range). r.1) rs (0, 0) (λ i j le hj. (AscendFrom-mono 0 rs i j h le hj).1)

-- the start of the last range is a member, where there is one
pub last_start-bounded : (n k : ℕ) (rs : List Range) (most : ℕ) → n ≤ most → AscendFrom k rs → ((v : ℕ) → is_member rs v ≡ true → v ≤ most) → last_start n rs ≤ most
unfolding last_start
last_start-bounded n k [] most le h bound = le
last_start-bounded n k (r ∷ rs) most le h bound =
    let first : in_range r r.0 ≡ true = grind (arith, h.1, in_range_tells r r.0) in
    last_start-bounded r.0 (r.1 + 2) rs most
    (bound r.0 (is_member-cons r rs r.0 ∙ ap (λ b. b || is_member rs r.0) first))
    h.2
    (λ v t. bound v (is_member-cons r rs v ∙ ap (λ b. in_range r v || b) t ∙ or_right (in_range r v) true refl))

-- ranges sorted by their starts; none is empty
pub StartFrom-sorted : (n : ℕ) (rs : List Range) → IsNonDecreasingBy (λ (r : Range). r.0) rs → All (λ (r : Range). r.0 ≤ r.1) rs → (0 < length rs → n ≤ (range_at rs 0).0) → StartFrom n rs
StartFrom-sorted n [] sorted ordered first = tt
StartFrom-sorted n (r ∷ rs) sorted ordered first = (
  first (omega arith),
  All-head (λ (x : Range). x.0 ≤ x.1) r rs ordered,
  StartFrom-sorted r.0 rs
      (λ i j d le hj. sorted (suc i) (suc j) d (omega arith) (omega arith))
      (All-tail (λ (x : Range). x.0 ≤ x.1) r rs ordered)
      (λ some. sorted 0 1 (0, 0) (omega arith) (omega arith)),
)
