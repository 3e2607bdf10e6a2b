use Rattle.std.proofs.Common.{◌≡◌, ℕ, ◌+◌, ◌^◌, ◌<◌, ◌≤◌, true, false, ◌||◌, List, [], ◌∷◌, refl, sym, ap, ap₂, ◌∙◌, arith, inl, inr, true≢false}
use Rattle.std.proofs.lemmas.Bool.{cases_lt, false_from_ne_true}
use Rattle.sn_ranges.specs.Ranges.{Range, RangeSet, in_range, is_member, AscendFrom}
use Rattle.sn_ranges.specs.Laws.{OneListForEachSet}
use Rattle.sn_ranges.proofs.RangesLemmas.{in_range_tells, is_member-nil, is_member-cons, is_member-below}

first_is_member : (x : Range) (xs : List Range) → x.0 ≤ x.1 → is_member (x ∷ xs) x.0 ≡ true
first_is_member x xs le =
    let first : in_range x x.0 ≡ true = grind (arith, in_range_tells x x.0) in
    is_member-cons x xs x.0 ∙ ap (λ b. b || is_member xs x.0) first

-- of two lists with the same members, the second starts no later, and where both start at one number its first range ends no later
first_within : (n : ℕ) (x y : Range) (xs ys : List Range) → AscendFrom n (x ∷ xs) → AscendFrom n (y ∷ ys) →
    ((v : ℕ) → is_member (x ∷ xs) v ≡ is_member (y ∷ ys) v) → (y.0 ≤ x.0) × (x.0 ≡ y.0 → y.1 ≤ x.1)
first_within n x y xs ys hx hy same =
    let at : (v : ℕ) → (in_range x v || is_member xs v) ≡ (in_range y v || is_member ys v) =
    λ v. sym (is_member-cons x xs v) ∙ same v ∙ is_member-cons y ys v in (
      elim (cases_lt x.0 y.0) [
        | inl lt ↦
            let yes : in_range x x.0 ≡ true = grind (arith, in_range_tells x x.0) in
            let no : in_range y x.0 ≡ false = grind (arith, in_range_tells y x.0) in
            absurd (true≢false (rw (yes, no, is_member-below (y.1 + 2) ys x.0 hy.2 (omega arith)) at (at x.0)))
        | inr ge ↦ ge
      ],
      λ starts. elim (cases_lt x.1 y.1) [
        | inl lt ↦
            let no : in_range x (x.1 + 1) ≡ false = grind (arith, in_range_tells x (x.1 + 1)) in
            let yes : in_range y (x.1 + 1) ≡ true = grind (arith, in_range_tells y (x.1 + 1)) in
            absurd (true≢false (sym (rw (yes, no, is_member-below (x.1 + 2) xs (x.1 + 1) hx.2 (omega arith)) at (at (x.1 + 1)))))
        | inr ge ↦ ge
      ],
    )

same_from : (n : ℕ) (xs ys : List Range) → AscendFrom n xs → AscendFrom n ys →
    ((v : ℕ) → is_member xs v ≡ is_member ys v) → xs ≡ ys
same_from n [] [] hx hy same = refl
same_from n [] (y ∷ ys) hx hy same = absurd (true≢false (sym (first_is_member y ys hy.1) ∙ sym (same y.0) ∙ is_member-nil y.0))
same_from n (x ∷ xs) [] hx hy same = absurd (true≢false (sym (first_is_member x xs hx.1) ∙ same x.0 ∙ is_member-nil x.0))
same_from n (x ∷ xs) (y ∷ ys) hx hy same =
    let one = first_within n x y xs ys hx hy same in
    let other = first_within n y x ys xs hy hx (λ v. sym (same v)) in
    let starts : x.0 ≡ y.0 = omega (arith, one.0, other.0) in
    let ends : x.1 ≡ y.1 = omega (arith, one.1 starts, other.1 (sym starts)) in
    let ty : AscendFrom (x.1 + 2) ys = rw ends hy.2 in
    let rest : (v : ℕ) → is_member xs v ≡ is_member ys v = λ v. elim (cases_lt v (x.1 + 2)) [
      | inl lt ↦ is_member-below (x.1 + 2) xs v hx.2 lt ∙ sym (is_member-below (x.1 + 2) ys v ty lt)
      | inr ge ↦
          let no_x : in_range x v ≡ false = grind (arith, in_range_tells x v) in
          let no_y : in_range y v ≡ false = grind (arith, in_range_tells y v) in
          rw (no_x, no_y) at (sym (is_member-cons x xs v) ∙ same v ∙ is_member-cons y ys v)
    ] in
    ap₂ ◌∷◌ (ap₂ (λ a b. (a, b)) starts ends) (same_from (x.1 + 2) xs ys hx.2 ty rest)

-- two sets of one width with the same values are the same ranges
pub one_list : OneListForEachSet
one_list left right hl hr width same =
    let past : (v : ℕ) → 2 ^ left.width ≤ v → is_member left.pairs v ≡ is_member right.pairs v = λ v le.
    let not_left = false_from_ne_true (is_member left.pairs v) (λ t. absurd (omega (arith, hl.fits v t))) in
    let right_fits : is_member right.pairs v ≡ true → v < 2 ^ left.width = λ t. rw width (hr.fits v t) in
    let not_right = false_from_ne_true (is_member right.pairs v) (λ t. absurd (omega (arith, right_fits t))) in
    not_left ∙ sym not_right in
    let all : (v : ℕ) → is_member left.pairs v ≡ is_member right.pairs v = λ v. elim (cases_lt v (2 ^ left.width)) [
      | inl lt ↦ same v lt
      | inr le ↦ past v le
    ] in
    let set : ℕ → List Range → RangeSet = λ w rs. record { width = w; pairs = rs } in
    ap₂ set width (same_from 0 left.pairs right.pairs hl.ascending hr.ascending all)
