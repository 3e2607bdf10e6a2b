-- The place of a member of a list in which no two are equal.
use Rattle.std.proofs.Common.{◌≡◌, ◌∙◌, sym, ap, ℕ, ◌<◌, Bool, true, false, List, [], ◌∷◌, length, Some, get_or, bytes_eq, position, slice_get, arith}
use Rattle.std.proofs.lemmas.Cmp.{nat_list_eq_equiv}
use Rattle.std.proofs.lemmas.List.Sums.{position_or_len_is}
use Rattle.std.proofs.lemmas.Map.Keys.{apart_from_distinct, sorted_head, sorted_tail}
use Rattle.std.proofs.lemmas.Map.Text.{is_eq-slice_cmp}
use Rattle.std.proofs.lemmas.Option.{get_or_from_slice_get, slice_get_within}
use Rattle.std.specs.Cmp.Lexicographic.{slice_cmp}
use Rattle.std.specs.List.{AllByRecursion, IsDistinct, position_or_len}
use Rattle.std.specs.List.Sorted.{IsStrictlySortedBy}
use Rattle.std.specs.Ordering.{is_eq, nat_cmp}
use Rattle.std.specs.declared.cmp.Ordering.TheVariants.{Less}

module _ {X : Type 0} (test : X → Bool) where
  place_of : (xs : List X) (i : ℕ) (d : X) → i < length xs → ((k : ℕ) → k < i → test (get_or xs k d) ≡ false) → test (get_or xs i d) ≡ true
      → position test xs ≡ Some i
  place_of xs i d below before here =
      let is : position_or_len test xs ≡ i = position_or_len_is test xs i d (omega (arith, below)) before (λ within. here) in
      rw (is) (grind (arith, below))

-- of members whose names differ
module _ {X : Type 0} (name : X → List ℕ) where
  pub first_with : (xs : List X) (i : ℕ) (x : X) → IsDistinct (λ a b. bytes_eq (name a) (name b)) xs → slice_get xs i ≡ Some x
      → position (λ y. bytes_eq (name x) (name y)) xs ≡ Some i
  first_with xs i x distinct is =
      let here : get_or xs i x ≡ x = get_or_from_slice_get xs i x x is in
      let below = slice_get_within xs i x is in
      place_of (λ y. bytes_eq (name x) (name y)) xs i x below
      (λ k less. nat_list_eq_equiv.symm (name x) (name (get_or xs k x))
      ∙ (ap (λ y. bytes_eq (name (get_or xs k x)) (name y)) (sym here)
      ∙ apart_from_distinct (λ a b. bytes_eq (name a) (name b)) xs k i x distinct less below))
      (ap (λ y. bytes_eq (name x) (name y)) here ∙ nat_list_eq_equiv.refl (name x))

-- texts that ascend differ
all_differ : (x : List ℕ) (xs : List (List ℕ)) → AllByRecursion (λ y. slice_cmp nat_cmp x y ≡ Less) xs → AllByRecursion (λ y. bytes_eq x y ≡ false) xs
all_differ x [] h = tt
all_differ x (y ∷ ys) h = (sym (is_eq-slice_cmp x y) ∙ ap is_eq h.0, all_differ x ys h.1)

distinct_sorted : (xs : List (List ℕ)) → IsStrictlySortedBy (slice_cmp nat_cmp) xs → IsDistinct bytes_eq xs
unfolding IsDistinct
distinct_sorted [] h = tt
distinct_sorted (x ∷ xs) h =
    (all_differ x xs (sorted_head (slice_cmp nat_cmp) x xs h), distinct_sorted xs (sorted_tail (slice_cmp nat_cmp) x xs h))

pub sorted_place : (xs : List (List ℕ)) (i : ℕ) (x : List ℕ) → IsStrictlySortedBy (slice_cmp nat_cmp) xs → slice_get xs i ≡ Some x
    → position (bytes_eq x) xs ≡ Some i
sorted_place xs i x h is = first_with (λ y. y) xs i x (distinct_sorted xs h) is
