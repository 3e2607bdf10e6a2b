-- Where no two members have one key, there is one list of the same members in order of keys.
use Rattle.std.proofs.Common.{◌≡◌, ◌∙◌, refl, sym, ap, subst, ℕ, suc, ◌≤◌, ◌<◌, ◌⊎◌, inl, inr, true, false, if◌then◌else◌, List, [], ◌∷◌, IsPermutation, arith}
use Rattle.std.specs.Prelude.{nat_eq}
use Rattle.std.specs.List.{AllByRecursion, sum_by}
use Rattle.std.specs.List.Sorted.{IsNonDecreasingBy}
use Rattle.std.proofs.lemmas.Bool.{cases_order}
use Rattle.std.proofs.lemmas.List.Elements.{All-from_recursion, recursion_from_All}
use Rattle.std.proofs.lemmas.List.Sorted.{All-permutation, sum_by-IsPermutation}
use Rattle.std.proofs.lemmas.List.Sums.{sum_by-cons}
use Rattle.std.proofs.lemmas.Bool.Decides.{nat_tests}

-- ---- members

abbrev pub Has : {X : Type 0} → List X → X → Type 0
Has [] x = ⊥
Has (y ∷ ys) x = (x ≡ y) ⊎ Has ys x

member_is : {X : Type 0} (P : X → Type 0) (xs : List X) (x : X) → AllByRecursion P xs → Has xs x → P x
member_is P [] x all h = absurd h
member_is P (y ∷ ys) x all (inl is) = subst P (sym is) all.0
member_is P (y ∷ ys) x all (inr later) = member_is P ys x all.1 later

had_more : {X : Type 0} (y : X) (ys some : List X) → AllByRecursion (Has ys) some → AllByRecursion (Has (y ∷ ys)) some
had_more y ys [] all = tt
had_more y ys (x ∷ xs) all = (inr all.0, had_more y ys xs all.1)

all_had : {X : Type 0} (ys : List X) → AllByRecursion (Has ys) ys
all_had [] = tt
all_had (y ∷ ys) = (inl refl, had_more y ys ys (all_had ys))

moved : {X : Type 0} (rows ordered : List X) → IsPermutation rows ordered → (x : X) → Has ordered x → Has rows x
moved rows ordered p x has =
    member_is (Has rows) ordered x (recursion_from_All (Has rows) ordered (All-permutation (Has rows) rows ordered p (All-from_recursion (Has rows) rows (all_had rows)))) has

module _ {X : Type 0} (key : X → ℕ) where
  -- ---- how many members have a key

  abbrev one_at : ℕ → X → ℕ
  one_at k x = if nat_eq (key x) k then 1 else 0

  abbrev count : ℕ → List X → ℕ
  count k xs = sum_by (one_at k) xs

  one : (x : X) → one_at (key x) x ≡ 1
  one x = let e : nat_eq (key x) (key x) ≡ true = grind (arith, nat_tests) in ap (λ b. if b then 1 else 0) e

  none : (k : ℕ) (x : X) → k < key x → one_at k x ≡ 0
  none k x less = let e : nat_eq (key x) k ≡ false = grind (arith, nat_tests, less) in ap (λ b. if b then 1 else 0) e

  counted : (x : X) (xs : List X) → 1 ≤ count (key x) (x ∷ xs)
  counted x xs = let c = sum_by-cons (one_at (key x)) x xs in let o = one x in omega (arith, c, o)

  uncounted : (k : ℕ) (xs : List X) → AllByRecursion (λ x. k < key x) xs → count k xs ≡ 0
  uncounted k [] all = refl
  uncounted k (x ∷ xs) all =
      let c = sum_by-cons (one_at k) x xs in
      let o = none k x all.0 in
      let rest = uncounted k xs all.1 in
      omega (arith, c, o, rest)

  -- ---- in order

  abbrev Ascends : List X → Type 0
  Ascends [] = Unit {0}
  Ascends (x ∷ xs) = AllByRecursion (λ y. key x ≤ key y) xs × Ascends xs

  ascends : (xs : List X) → IsNonDecreasingBy key xs → Ascends xs
  ascends [] sorted = tt
  ascends (x ∷ xs) sorted = (
    recursion_from_All (λ y. key x ≤ key y) xs (λ k d h. sorted 0 (suc k) d (omega arith) (omega (arith, h))),
    ascends xs (λ i j d le h. sorted (suc i) (suc j) d (omega (arith, le)) (omega (arith, h))),
  )

  past : (k : ℕ) (y : X) (ys : List X) → k < key y → AllByRecursion (λ z. key y ≤ key z) ys → AllByRecursion (λ z. k < key z) ys
  past k y [] less all = tt
  past k y (z ∷ zs) less all = (let h = all.0 in omega (arith, less, h), past k y zs less all.1)

  -- the first member of one list is no less than that of the other
  not_less : (x y : X) (xs ys : List X) → Ascends (y ∷ ys) → count (key x) (x ∷ xs) ≡ count (key x) (y ∷ ys) → key x < key y → ⊥
  not_less x y xs ys up same less =
      let some = counted x xs in
      let no = uncounted (key x) (y ∷ ys) (less, past (key x) y ys less up.0) in
      absurd (omega (arith, some, no, same))

  same_key : (x y : X) (xs ys : List X) → Ascends (x ∷ xs) → Ascends (y ∷ ys) → ((k : ℕ) → count k (x ∷ xs) ≡ count k (y ∷ ys)) → key x ≡ key y
  same_key x y xs ys up also same = by (cases_order (key x) (key y))
    where
      by : (key x ≡ key y) ⊎ ((key x < key y) ⊎ (key y < key x)) → key x ≡ key y
      by (inl is) = is
      by (inr (inl less)) = absurd (not_less x y xs ys also (same (key x)) less)
      by (inr (inr less)) = absurd (not_less y x ys xs up (sym (same (key y))) less)

  fewer : (k : ℕ) (x y : X) (xs ys : List X) → x ≡ y → count k (x ∷ xs) ≡ count k (y ∷ ys) → count k xs ≡ count k ys
  fewer k x y xs ys is same =
      let c = sum_by-cons (one_at k) x xs in
      let d = sum_by-cons (one_at k) y ys in
      let o = ap (one_at k) is in
      omega (arith, c, d, o, same)

  counts_once : (xs ys : List X) → ((x y : X) → Has xs x → Has ys y → key x ≡ key y → x ≡ y) → Ascends xs → Ascends ys
      → ((k : ℕ) → count k xs ≡ count k ys) → xs ≡ ys
  counts_once [] [] one up also same = refl
  counts_once [] (y ∷ ys) one up also same = let some = counted y ys in let no = same (key y) in absurd (omega (arith, some, no))
  counts_once (x ∷ xs) [] one up also same = let some = counted x xs in let no = same (key x) in absurd (omega (arith, some, no))
  counts_once (x ∷ xs) (y ∷ ys) one up also same =
      let is = one x y (inl refl) (inl refl) (same_key x y xs ys up also same) in
      let rest = counts_once xs ys (λ a b ha hb e. one a b (inr ha) (inr hb) e) up.1 also.1 (λ k. fewer k x y xs ys is (same k)) in
      λ i. is i ∷ rest i

  pub ordered_once : (rows xs ys : List X) → ((x y : X) → Has rows x → Has rows y → key x ≡ key y → x ≡ y)
      → IsPermutation rows xs → IsPermutation rows ys → IsNonDecreasingBy key xs → IsNonDecreasingBy key ys → xs ≡ ys
  ordered_once rows xs ys one p q up also =
      counts_once xs ys (λ x y hx hy e. one x y (moved rows xs p x hx) (moved rows ys q y hy) e) (ascends xs up) (ascends ys also)
      (λ k. sum_by-IsPermutation (one_at k) rows xs p ∙ sym (sum_by-IsPermutation (one_at k) rows ys q))
