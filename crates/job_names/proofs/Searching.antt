-- A search by halving in an ascending list of texts.
use Rattle.std.proofs.Common.{◌≡◌, ℕ, ◌<◌, ◌≤◌, ◌⊎◌, inl, inr, true, false, cond, List, [], Option, Some, None, Result, Ok, Err, length, nat_lt, position, bytes_eq, refl, sym, ◌∙◌, ap, subst, arith}
use Rattle.std.proofs.Math.Nat.{eq-or-lt_of_le}
use Rattle.std.proofs.lemmas.Bool.{cases_lt}
use Rattle.std.proofs.lemmas.Bool.Decides.{nat_tests}
use Rattle.std.proofs.lemmas.List.Sums.{position_or_len_is}
use Rattle.std.proofs.lemmas.Map.Keys.{Less-from_sorted}
use Rattle.std.proofs.lemmas.Map.Lookups.{exact_bytes}
use Rattle.std.proofs.lemmas.Map.Text.{is_eq-slice_cmp}
use Rattle.std.specs.Cmp.Lexicographic.{slice_cmp, nat_list_cmp_total, nat_list_eq_equiv}
use Rattle.std.specs.List.{position_or_len, slice_index_or}
use Rattle.std.specs.List.Sorted.{IsBinarySearchResult, IsNonDecreasingBy, IsSearchInRange, IsStrictlySortedBy}
use Rattle.std.specs.Ordering.{is_eq, nat_cmp, ordering_index}
use Rattle.std.specs.declared.cmp.Ordering.{Ordering}
use Rattle.std.specs.declared.cmp.Ordering.TheVariants.{Less, Equal, Greater}

at_most_two : (o : Ordering) → ordering_index o ≤ 2
at_most_two Less = omega arith
at_most_two Equal = omega arith
at_most_two Greater = omega arith

-- what a search that ended so found
abbrev pub found_by : Result ℕ ℕ → Option ℕ
found_by (Ok i) = Some i
found_by (Err i) = None

module _ (x : List ℕ) where
  -- a text that compares otherwise is another
  other : (y : List ℕ) (o : Ordering) → slice_cmp nat_cmp y x ≡ o → is_eq o ≡ false → bytes_eq x y ≡ false
  other y o is differs = nat_list_eq_equiv.symm x y ∙ sym (is_eq-slice_cmp y x) ∙ ap is_eq is ∙ differs

  same : (y : List ℕ) → slice_cmp nat_cmp y x ≡ Equal → bytes_eq x y ≡ true
  same y is = nat_list_eq_equiv.symm x y ∙ sym (is_eq-slice_cmp y x) ∙ ap is_eq is

  rise_by : (a b : List ℕ) (o q : Ordering) → slice_cmp nat_cmp a b ≡ Less → slice_cmp nat_cmp a x ≡ o → slice_cmp nat_cmp b x ≡ q
      → ordering_index o ≤ ordering_index q
  rise_by a b o Greater less e f = at_most_two o
  rise_by a b o Less less e f =
      let below : slice_cmp nat_cmp a x ≡ Less = nat_list_cmp_total.trans a b x less f in
      let at : ordering_index o ≡ 0 = ap ordering_index (sym e ∙ below) in omega (arith, at)
  rise_by a b o Equal less e f =
      let below : slice_cmp nat_cmp a x ≡ Less = subst (λ y. slice_cmp nat_cmp a y ≡ Less) (exact_bytes b x f) less in
      let at : ordering_index o ≡ 0 = ap ordering_index (sym e ∙ below) in omega (arith, at)

  module _ (xs : List (List ℕ)) (sorted : IsStrictlySortedBy (slice_cmp nat_cmp) xs) where
    rises : IsNonDecreasingBy (λ y. ordering_index (slice_cmp nat_cmp y x)) xs
    rises i j d le in_range = by (eq-or-lt_of_le le)
      where
        by : (i ≡ j) ⊎ (i < j)
            → ordering_index (slice_cmp nat_cmp (slice_index_or xs i d) x) ≤ ordering_index (slice_cmp nat_cmp (slice_index_or xs j d) x)
        by (inl is) = let equal = ap (λ k. ordering_index (slice_cmp nat_cmp (slice_index_or xs k d) x)) is in omega (arith, equal)
        by (inr lt) = rise_by (slice_index_or xs i d) (slice_index_or xs j d) _ _ (Less-from_sorted (slice_cmp nat_cmp) xs i j d sorted lt in_range) refl refl

    -- where the first is known, so is what is found
    found : (i : ℕ) → position_or_len (bytes_eq x) xs ≡ i → position (bytes_eq x) xs ≡ cond (nat_lt i (length xs)) (Some i) None
    found i is = ap (λ k. cond (nat_lt k (length xs)) (Some k) None) is

    within : (i : ℕ) → i < length xs → cond (nat_lt i (length xs)) (Some i) None ≡ Some i
    within i lt = let holds : nat_lt i (length xs) ≡ true = grind (arith, nat_tests, lt) in ap (λ b. cond b (Some i) None) holds

    beyond : cond (nat_lt (length xs) (length xs)) (Some (length xs)) None ≡ None
    beyond = let fails : nat_lt (length xs) (length xs) ≡ false = grind (arith, nat_tests) in ap (λ b. cond b (Some (length xs)) None) fails

    pub searched : (r : Result ℕ ℕ) → IsSearchInRange r (length xs) → IsBinarySearchResult (λ y. slice_cmp nat_cmp y x) xs r
        → found_by r ≡ position (bytes_eq x) xs
    searched (Ok i) in_range equal =
        let here : slice_index_or xs i [] ≡ x = exact_bytes (slice_index_or xs i []) x (equal []) in
        let before : (k : ℕ) → k < i → bytes_eq x (slice_index_or xs k []) ≡ false
        = λ k lt. other (slice_index_or xs k []) Less
        (subst (λ y. slice_cmp nat_cmp (slice_index_or xs k []) y ≡ Less) here (Less-from_sorted (slice_cmp nat_cmp) xs k i [] sorted lt in_range)) refl in
        let first = position_or_len_is (bytes_eq x) xs i [] (omega (arith, in_range)) before (λ _. same (slice_index_or xs i []) (equal [])) in
        sym (found i first ∙ within i in_range)
    searched (Err i) in_range parted =
        let parts = parted rises in
        let none : (k : ℕ) → k < length xs → bytes_eq x (slice_index_or xs k []) ≡ false
        = λ k lt. by k lt (cases_lt k i) in
        let first = position_or_len_is (bytes_eq x) xs (length xs) [] (omega arith) none (λ lt. absurd (omega (arith, lt))) in
        sym (found (length xs) first ∙ beyond)
      where
        by : (k : ℕ) → k < length xs → (k < i) ⊎ (i ≤ k) → bytes_eq x (slice_index_or xs k []) ≡ false
        by k lt (inl below) = other (slice_index_or xs k []) Less ((parted rises).0 k [] (omega arith) below) refl
        by k lt (inr above) = other (slice_index_or xs k []) Greater ((parted rises).1 k [] above lt) refl
