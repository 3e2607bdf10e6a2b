-- Ranges and the window that they are cut to.
use Rattle.std.proofs.Common.{◌≡◌, ℕ, zero, suc, ◌+◌, ◌<◌, ◌≤◌, Bool, true, false, ◌&&◌, ◌||◌, List, [], ◌∷◌, ◌++◌, length, take, drop, refl, sym, ap, subst, ◌∙◌, arith, inl, inr}
use Rattle.std.proofs.lemmas.Bool.{both_ways, cases_lt, or_right}
use Rattle.std.proofs.lemmas.List.{take-append-drop, get_or-take, get_or-drop, length-take, length-drop}
use Rattle.sn_ranges.specs.Ranges.{Range, in_range, is_member, AscendFrom, IsCut}
use Rattle.sn_ranges.proofs.RangesLemmas.{range_at, in_range_tells, is_member-cons, is_member-append, is_member-outside, or-false, is_member-below, AscendFrom-start, AscendFrom-drop, AscendFrom-mono, AscendFrom-apart, next_free}

pub and-false : (x : Bool) → (x && false) ≡ false
and-false true = refl
and-false false = refl

pub and-true : (x : Bool) → (x && true) ≡ x
and-true true = refl
and-true false = refl

-- the numbers that lie in a window, of two lists one after the other
pub cut_both : (x y w : Bool) → ((x || y) && w) ≡ ((x && w) || (y && w))
cut_both true true true = refl
cut_both true true false = refl
cut_both true false true = refl
cut_both true false false = refl
cut_both false y w = refl

pub AscendFrom-take : (n : ℕ) (rs : List Range) (k : ℕ) → AscendFrom n rs → AscendFrom n (take k rs)
AscendFrom-take n rs zero h = tt
AscendFrom-take n [] (suc k) h = tt
AscendFrom-take n (r ∷ rs) (suc k) h = (h.0, h.1, AscendFrom-take (r.1 + 2) rs k h.2)

pub AscendFrom-append : (n : ℕ) (xs ys : List Range) → AscendFrom n xs → AscendFrom (next_free n xs) ys → AscendFrom n (xs ++ ys)
unfolding next_free
AscendFrom-append n [] ys h more = more
AscendFrom-append n (x ∷ xs) ys h more = (h.0, h.1, AscendFrom-append (x.1 + 2) xs ys h.2 more)

-- after ranges without a member past a number, the next may start two past it
pub next_free-bounded : (n : ℕ) (xs : List Range) (most : ℕ) → n ≤ most + 2 → AscendFrom n xs → ((v : ℕ) → is_member xs v ≡ true → v ≤ most) → next_free n xs ≤ most + 2
unfolding next_free
next_free-bounded n [] most le h bound = le
next_free-bounded n (x ∷ xs) most le h bound =
    let last : in_range x x.1 ≡ true = grind (arith, h.1, in_range_tells x x.1) in
    let member : x.1 ≤ most = bound x.1 (is_member-cons x xs x.1 ∙ ap (λ b. b || is_member xs x.1) last) in
    next_free-bounded (x.1 + 2) xs most (omega arith) h.2
    (λ v t. bound v (is_member-cons x xs v ∙ ap (λ b. in_range x v || b) t ∙ or_right (in_range x v) true refl))

-- no number past the ends of the ranges is a member
pub is_member-beyond : (rs : List Range) (v : ℕ) → ((k : ℕ) → k < length rs → (range_at rs k).1 < v) → is_member rs v ≡ false
is_member-beyond rs v h = is_member-outside rs v (λ k hk. inr (h k hk))

-- a member is at most what each range ends by
pub member-bounded : (rs : List Range) (most v : ℕ) → ((k : ℕ) → k < length rs → (range_at rs k).1 ≤ most) → is_member rs v ≡ true → v ≤ most
member-bounded rs most v h t = elim (cases_lt most v) [
  | inl lt ↦ absurd (both_ways _ (is_member-beyond rs v (λ k hk. omega (arith, h k hk))) t)
  | inr le ↦ le
]

-- ranges that lie within a window are not cut
pub uncut : (n : ℕ) (rs : List Range) (w : Range) (v : ℕ) → w.0 ≤ n → AscendFrom n rs → ((k : ℕ) → k < length rs → (range_at rs k).1 ≤ w.1) → (is_member rs v && in_range w v) ≡ is_member rs v
uncut n rs w v le h ends = elim (in_range_tells w v) [
  | inl inside ↦ ap (λ b. is_member rs v && b) inside.0 ∙ and-true (is_member rs v)
  | inr outside ↦
      let none : is_member rs v ≡ false = is_member-outside rs v (λ k hk. elim outside.1 [
        | inl before ↦ inl (omega (arith, AscendFrom-start n rs k h hk))
        | inr after ↦ inr (omega (arith, ends k hk))
      ]) in
      ap (λ b. b && in_range w v) none ∙ sym none
]

-- ranges that end before a window are cut away
pub cut_away : (rs : List Range) (w : Range) (v : ℕ) → ((k : ℕ) → k < length rs → (range_at rs k).1 < w.0) → (is_member rs v && in_range w v) ≡ false
cut_away rs w v ends = elim (in_range_tells w v) [
  | inl inside ↦ ap (λ b. b && in_range w v) (is_member-beyond rs v (λ k hk. omega (arith, ends k hk)))
  | inr outside ↦ ap (λ b. is_member rs v && b) outside.0 ∙ and-false (is_member rs v)
]

-- of ranges where the first ends at a window's end or later, it alone meets the window
pub cut_first : (n : ℕ) (r : Range) (rs : List Range) (w : Range) (v : ℕ) → AscendFrom n (r ∷ rs) → w.1 ≤ r.1 → (is_member (r ∷ rs) v && in_range w v) ≡ (in_range r v && in_range w v)
cut_first n r rs w v h ends = elim (in_range_tells w v) [
  | inl inside ↦
      ap (λ b. b && in_range w v) (is_member-cons r rs v ∙ ap (λ b. in_range r v || b) (is_member-below (r.1 + 2) rs v h.2 (omega arith)) ∙ or-false (in_range r v))
  | inr outside ↦
      ap (λ b. is_member (r ∷ rs) v && b) outside.0 ∙ and-false (is_member (r ∷ rs) v)
      ∙ sym (ap (λ b. in_range r v && b) outside.0 ∙ and-false (in_range r v))
]

-- a list of ranges is its first so many and the others
pub is_member-split : (rs : List Range) (i v : ℕ) → is_member rs v ≡ (is_member (take i rs) v || is_member (drop i rs) v)
is_member-split rs i v = ap (λ l. is_member l v) (sym (take-append-drop i rs)) ∙ is_member-append (take i rs) (drop i rs) v

pub is_cut : (rs : List Range) (w : Range) (s m : ℕ) → w.0 ≤ w.1 → AscendFrom 0 rs →
    ((k : ℕ) → k < s → (range_at rs k).1 < w.0) → (s < length rs → w.0 ≤ (range_at rs s).1) →
    ((k : ℕ) → k < m → (range_at (drop s rs) k).1 < w.1) → (m < length (drop s rs) → w.1 ≤ (range_at (drop s rs) m).1) →
    IsCut rs w (take m (drop s rs)) (drop m (drop s rs))
is_cut rs w s m ordered h before at inside_ends at_rest =
    let ending = drop s rs in
    let ending_h = AscendFrom-drop 0 rs s h in
    let inside_at : (k : ℕ) → k < length (take m ending) → (k < m) × (k < length ending) × (range_at (take m ending) k ≡ range_at ending k) =
    λ k hk. let len = length-take m ending in
    let lt : k < m = omega arith in
    (lt, omega arith, get_or-take m ending k (0, 0) lt) in
    let front_at : (k : ℕ) → k < length (take s rs) → (range_at (take s rs) k).1 < w.0 = λ k hk.
    let len = length-take s rs in
    let lt : k < s = omega arith in
    rw (get_or-take s rs k (0, 0) lt) (before k lt) in
    let rest_at : range_at (drop m ending) 0 ≡ range_at ending m = get_or-drop m ending 0 (0, 0) ∙ ap (λ k. range_at ending k) (omega arith) in
    record {
      ascending = AscendFrom-take 0 ending m ending_h;
      rest_ascending = AscendFrom-drop 0 ending m ending_h;
      starts = λ k hk.
          let here = inside_at k hk in
          let len = length-drop s rs in
          let mono = (AscendFrom-mono 0 rs s (s + k) h (omega arith) (omega (arith, here.1))).1 in
          rw (here.2, get_or-drop s rs k (0, 0)) (omega (arith, at (omega (arith, here.1))));
      ends = λ k hk. let here = inside_at k hk in rw here.2 (inside_ends k here.0);
      apart = λ k hk some.
          let here = inside_at k hk in
          let len = length-drop m ending in
          let two = AscendFrom-apart 0 ending k m ending_h here.0 (omega arith) in
          rw (here.2, rest_at) (omega arith);
      rest_ends = λ some. let len = length-drop m ending in rw rest_at (at_rest (omega arith));
      members = λ v.
          let front = is_member (take s rs) v in
          ap (λ b. b && in_range w v) (is_member-split rs s v)
          ∙ cut_both front (is_member ending v) (in_range w v)
          ∙ ap (λ b. b || (is_member ending v && in_range w v)) (cut_away (take s rs) w v front_at)
          ∙ ap (λ b. b && in_range w v) (is_member-split ending m v)
          ∙ cut_both (is_member (take m ending) v) (is_member (drop m ending) v) (in_range w v);
      beyond = λ v past.
          let none : is_member (take s rs) v ≡ false = is_member-beyond (take s rs) v (λ k hk. omega (arith, front_at k hk)) in
          let no_more : is_member (take m ending) v ≡ false = is_member-beyond (take m ending) v (λ k hk.
          let here = inside_at k hk in
          rw here.2 (omega (arith, inside_ends k here.0))) in
          sym (is_member-split rs s v ∙ ap (λ b. b || is_member ending v) none
          ∙ is_member-split ending m v ∙ ap (λ b. b || is_member (drop m ending) v) no_more);
    }

-- the same, of the ranges as two slices give them
pub is_cut_so : (rs : List Range) (w : Range) (s m : ℕ) (ending inside rest : List Range) → w.0 ≤ w.1 → AscendFrom 0 rs →
    ((k : ℕ) → k < s → (range_at rs k).1 < w.0) → (s < length rs → w.0 ≤ (range_at rs s).1) →
    ((k : ℕ) → k < m → (range_at ending k).1 < w.1) → (m < length ending → w.1 ≤ (range_at ending m).1) →
    ending ≡ drop s rs → inside ≡ take m ending → rest ≡ drop m ending →
    IsCut rs w inside rest
is_cut_so rs w s m ending inside rest ordered h before at inside_ends at_rest same front back =
    let inside_is : inside ≡ take m (drop s rs) = front ∙ ap (take m) same in
    let rest_is : rest ≡ drop m (drop s rs) = back ∙ ap (drop m) same in
    let ends = subst (λ (l : List Range). (k : ℕ) → k < m → (range_at l k).1 < w.1) same inside_ends in
    let behind = subst (λ (l : List Range). m < length l → w.1 ≤ (range_at l m).1) same at_rest in
    rw (inside_is, rest_is) (is_cut rs w s m ordered h before at ends behind)
