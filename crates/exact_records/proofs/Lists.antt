-- Lists: all members, exactly one, some.
use Rattle.std.proofs.Common.{◌≡◌, ◌⊎◌, inl, inr, Bool, true, false, ◌&&◌, List, [], ◌∷◌, ◌++◌, map, refl, sym, ap}
use Rattle.std.specs.List.{AllByRecursion, list_all}
use Rattle.exact_records.specs.Exact.{ExactlyOne, SomeOne}

module _ {A : Type 0} where
  pub all_append : (P : A → Type 0) (xs ys : List A) → AllByRecursion P xs → AllByRecursion P ys → AllByRecursion P (xs ++ ys)
  all_append P [] ys h k = k
  all_append P (x ∷ xs) ys h k = (h.0, all_append P xs ys h.1 k)

  pub all_weaker : (P Q : A → Type 0) (xs : List A) → ((x : A) → P x → Q x) → AllByRecursion P xs → AllByRecursion Q xs
  all_weaker P Q [] f h = tt
  all_weaker P Q (x ∷ xs) f h = (f x h.0, all_weaker P Q xs f h.1)

  pub all_both : (P Q S : A → Type 0) (xs : List A) → ((x : A) → P x → Q x → S x) → AllByRecursion P xs → AllByRecursion Q xs → AllByRecursion S xs
  all_both P Q S [] f h k = tt
  all_both P Q S (x ∷ xs) f h k = (f x h.0 k.0, all_both P Q S xs f h.1 k.1)

  pub all_first : (P : A → Type 0) (xs ys : List A) → AllByRecursion P (xs ++ ys) → AllByRecursion P xs
  all_first P [] ys h = tt
  all_first P (x ∷ xs) ys h = (h.0, all_first P xs ys h.1)

  pub all_later : (P : A → Type 0) (xs ys : List A) → AllByRecursion P (xs ++ ys) → AllByRecursion P ys
  all_later P [] ys h = h
  all_later P (x ∷ xs) ys h = all_later P xs ys h.1

  pub one_before : (P : A → Type 0) (xs ys : List A) → ExactlyOne P xs → AllByRecursion (λ y. P y → ⊥) ys → ExactlyOne P (xs ++ ys)
  one_before P [] ys h k = absurd h
  one_before P (x ∷ xs) ys (inl h) k = inl (h.0, all_append _ xs ys h.1 k)
  one_before P (x ∷ xs) ys (inr h) k = inr (h.0, one_before P xs ys h.1 k)

  pub one_after : (P : A → Type 0) (xs ys : List A) → AllByRecursion (λ y. P y → ⊥) xs → ExactlyOne P ys → ExactlyOne P (xs ++ ys)
  one_after P [] ys h k = k
  one_after P (x ∷ xs) ys h k = inr (h.0, one_after P xs ys h.1 k)

  -- the one of both lists is one of the first, where the second has none
  pub one_of_first : (P : A → Type 0) (xs ys : List A) → AllByRecursion (λ y. P y → ⊥) ys → ExactlyOne P (xs ++ ys) → ExactlyOne P xs
  one_of_first P [] [] k h = h
  one_of_first P [] (y ∷ ys) k (inl h) = absurd (k.0 h.0)
  one_of_first P [] (y ∷ ys) k (inr h) = one_of_first P [] ys k.1 h.1
  one_of_first P (x ∷ xs) ys k (inl h) = inl (h.0, all_first _ xs ys h.1)
  one_of_first P (x ∷ xs) ys k (inr h) = inr (h.0, one_of_first P xs ys k h.1)

  pub some_first : (P : A → Type 0) (xs ys : List A) → SomeOne P xs → SomeOne P (xs ++ ys)
  some_first P [] ys h = absurd h
  some_first P (x ∷ xs) ys (inl h) = inl h
  some_first P (x ∷ xs) ys (inr h) = inr (some_first P xs ys h)

  pub some_later : (P : A → Type 0) (xs ys : List A) → SomeOne P ys → SomeOne P (xs ++ ys)
  some_later P [] ys h = h
  some_later P (x ∷ xs) ys h = inr (some_later P xs ys h)

  pub some_either : (P : A → Type 0) (xs ys : List A) → SomeOne P (xs ++ ys) → SomeOne P xs ⊎ SomeOne P ys
  some_either P [] ys h = inr h
  some_either P (x ∷ xs) ys (inl h) = inl (inl h)
  some_either P (x ∷ xs) ys (inr h) = elim (some_either P xs ys h) [ inl l ↦ inl (inr l) | inr r ↦ inr r ]

  pub some_weaker : (P Q : A → Type 0) (xs : List A) → ((x : A) → P x → Q x) → SomeOne P xs → SomeOne Q xs
  some_weaker P Q [] f h = absurd h
  some_weaker P Q (x ∷ xs) f (inl h) = inl (f x h)
  some_weaker P Q (x ∷ xs) f (inr h) = inr (some_weaker P Q xs f h)

  -- a member with the property, and what all have
  pub some_with : (P Q S : A → Type 0) (xs : List A) → ((x : A) → P x → Q x → S x) → SomeOne P xs → AllByRecursion Q xs → SomeOne S xs
  some_with P Q S [] f h k = absurd h
  some_with P Q S (x ∷ xs) f (inl h) k = inl (f x h k.0)
  some_with P Q S (x ∷ xs) f (inr h) k = inr (some_with P Q S xs f h k.1)

  pub some_not : (P Q : A → Type 0) (xs : List A) → ((x : A) → P x → Q x → ⊥) → SomeOne P xs → AllByRecursion Q xs → ⊥
  some_not P Q [] f h k = absurd h
  some_not P Q (x ∷ xs) f (inl h) k = f x h k.0
  some_not P Q (x ∷ xs) f (inr h) k = some_not P Q xs f h k.1

  pub same_first : {a b : A} {xs ys : List A} → a ∷ xs ≡ b ∷ ys → a ≡ b
  same_first e = cc

  pub same_rest : {a b : A} {xs ys : List A} → a ∷ xs ≡ b ∷ ys → xs ≡ ys
  same_rest e = cc

  pub cancel : (xs ys zs : List A) → xs ++ ys ≡ xs ++ zs → ys ≡ zs
  cancel [] ys zs e = e
  cancel (x ∷ xs) ys zs e = cancel xs ys zs (same_rest e)

  pub nothing_after : (xs ys : List A) → xs ≡ xs ++ ys → ys ≡ []
  nothing_after [] ys e = sym e
  nothing_after (x ∷ xs) ys e = nothing_after xs ys (same_rest e)

  pub joined_empty : (xs ys : List A) → xs ++ ys ≡ [] → (xs ≡ []) × (ys ≡ [])
  joined_empty [] ys e = (refl, e)
  joined_empty (x ∷ xs) ys e = let bad : x ∷ (xs ++ ys) ≡ [] = e in cc

  pub append_nil : (xs : List A) → xs ++ [] ≡ xs
  append_nil [] = refl
  append_nil (x ∷ xs) = ap (λ zs. x ∷ zs) (append_nil xs)

  pub map_append : {B : Type 0} (f : A → B) (xs ys : List A) → map f (xs ++ ys) ≡ map f xs ++ map f ys
  map_append f [] ys = refl
  map_append f (x ∷ xs) ys = ap (λ zs. f x ∷ zs) (map_append f xs ys)

  -- a list is empty, or has a last member
  pub last_of : (xs : List A) → (xs ≡ []) ⊎ ((ys : List A) × (y : A) × (xs ≡ ys ++ y ∷ []))
  last_of [] = inl refl
  last_of (x ∷ xs) =
      elim (last_of xs) [
        | inl e ↦ inr ([], x, ap (λ zs. x ∷ zs) e)
        | inr h ↦ inr (x ∷ h.0, h.1, ap (λ zs. x ∷ zs) h.2)
      ]

  not_empty : (xs : List A) (x : A) → xs ++ x ∷ [] ≡ [] → ⊥
  not_empty [] x e = cc
  not_empty (y ∷ xs) x e = let bad : y ∷ (xs ++ x ∷ []) ≡ [] = e in cc

  pub snoc_same : (xs ys : List A) (c d : A) → xs ++ c ∷ [] ≡ ys ++ d ∷ [] → xs ≡ ys
  snoc_same [] [] c d e = refl
  snoc_same [] (y ∷ ys) c d e = absurd (not_empty ys d (sym (same_rest e)))
  snoc_same (x ∷ xs) [] c d e = absurd (not_empty xs c (same_rest e))
  snoc_same (x ∷ xs) (y ∷ ys) c d e = λ i. same_first e i ∷ snoc_same xs ys c d (same_rest e) i

  -- a list with one more, taken apart elsewhere
  pub split_last : (ds : List A) (c d : A) (p rest : List A) → ds ++ c ∷ [] ≡ p ++ d ∷ rest
      → ((p ≡ ds) × (d ≡ c) × (rest ≡ [])) ⊎ ((more : List A) × (ds ≡ p ++ d ∷ more))
  split_last [] c d [] rest e = inl (refl, sym (same_first e), sym (same_rest e))
  split_last [] c d (x ∷ p) rest e = absurd (longer p (sym (same_rest e)))
    where
      longer : (xs : List A) → xs ++ d ∷ rest ≡ [] → ⊥
      longer [] q = cc
      longer (y ∷ ys) q = let bad : y ∷ (ys ++ d ∷ rest) ≡ [] = q in cc
  split_last (b ∷ ds) c d [] rest e = inr (ds, ap (λ z. z ∷ ds) (same_first e))
  split_last (b ∷ ds) c d (x ∷ p) rest e =
      elim (split_last ds c d p rest (same_rest e)) [
        | inl h ↦ inl ((λ i. same_first (sym e) i ∷ h.0 i), h.1, h.2)
        | inr h ↦ inr (h.0, (λ i. same_first e i ∷ h.1 i))
      ]

-- ---- tests that all members pass

pub both : (a b : Bool) → a ≡ true → b ≡ true → (a && b) ≡ true
both a b h k = λ i. h i && k i

pub left_of : (a b : Bool) → (a && b) ≡ true → a ≡ true
left_of true b h = refl
left_of false b h = h

pub right_of : (a b : Bool) → (a && b) ≡ true → b ≡ true
right_of true b h = h
right_of false b h = cc

module _ {A : Type 0} (p : A → Bool) where
  pub pass_first : (xs ys : List A) → list_all p (xs ++ ys) ≡ true → list_all p xs ≡ true
  pass_first [] ys h = refl
  pass_first (x ∷ xs) ys h =
      both (p x) (list_all p xs) (left_of (p x) (list_all p (xs ++ ys)) h) (pass_first xs ys (right_of (p x) (list_all p (xs ++ ys)) h))

  pub pass_later : (xs ys : List A) → list_all p (xs ++ ys) ≡ true → list_all p ys ≡ true
  pass_later [] ys h = h
  pass_later (x ∷ xs) ys h = pass_later xs ys (right_of (p x) (list_all p (xs ++ ys)) h)

  pub pass_append : (xs ys : List A) → list_all p xs ≡ true → list_all p ys ≡ true → list_all p (xs ++ ys) ≡ true
  pass_append [] ys h k = k
  pass_append (x ∷ xs) ys h k =
      both (p x) (list_all p (xs ++ ys)) (left_of (p x) (list_all p xs) h) (pass_append xs ys (right_of (p x) (list_all p xs) h) k)

pub true_not_false : (b : Bool) → b ≡ true → b ≡ false → ⊥
true_not_false b h k = cc
