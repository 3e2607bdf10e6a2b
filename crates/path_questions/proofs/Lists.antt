-- Lists: all members, some, exactly one.
use Rattle.std.proofs.Common.{◌≡◌, inl, inr, Bool, true, false, ◌&&◌, List, [], ◌∷◌, ◌++◌, map, refl}
use Rattle.std.specs.List.{AllByRecursion, list_all}
use Rattle.exact_records.specs.Exact.{ExactlyOne, SomeOne}

module _ {A : Type 0} where
  pub all_later : (P : A → Type 0) (xs ys : List A) → AllByRecursion P (xs ++ ys) → AllByRecursion P ys
  all_later P [] ys h = h
  all_later P (x ∷ xs) ys h = all_later P xs ys h.1

  pub all_append : (P : A → Type 0) (xs ys : List A) → AllByRecursion P xs → AllByRecursion P ys → AllByRecursion P (xs ++ ys)
  all_append P [] ys h k = k
  all_append P (x ∷ xs) ys h k = (h.0, all_append P xs ys h.1 k)

  pub all_weaker : (P Q : A → Type 0) (xs : List A) → ((x : A) → P x → Q x) → AllByRecursion P xs → AllByRecursion Q xs
  all_weaker P Q [] f h = tt
  all_weaker P Q (x ∷ xs) f h = (f x h.0, all_weaker P Q xs f h.1)

  pub all_both : (P Q S : A → Type 0) (xs : List A) → ((x : A) → P x → Q x → S x) → AllByRecursion P xs → AllByRecursion Q xs → AllByRecursion S xs
  all_both P Q S [] f h k = tt
  all_both P Q S (x ∷ xs) f h k = (f x h.0 k.0, all_both P Q S xs f h.1 k.1)

  pub some_weaker : (P Q : A → Type 0) (xs : List A) → ((x : A) → P x → Q x) → SomeOne P xs → SomeOne Q xs
  some_weaker P Q [] f h = absurd h
  some_weaker P Q (x ∷ xs) f (inl h) = inl (f x h)
  some_weaker P Q (x ∷ xs) f (inr h) = inr (some_weaker P Q xs f h)

  pub some_both : (P Q S : A → Type 0) (xs : List A) → ((x : A) → P x → Q x → S x) → SomeOne P xs → AllByRecursion Q xs → SomeOne S xs
  some_both P Q S [] f h k = absurd h
  some_both P Q S (x ∷ xs) f (inl h) k = inl (f x h k.0)
  some_both P Q S (x ∷ xs) f (inr h) k = inr (some_both P Q S xs f h k.1)

  pub some_not : (P Q : A → Type 0) (xs : List A) → ((x : A) → P x → Q x → ⊥) → SomeOne P xs → AllByRecursion Q xs → ⊥
  some_not P Q [] f h k = absurd h
  some_not P Q (x ∷ xs) f (inl h) k = f x h k.0
  some_not P Q (x ∷ xs) f (inr h) k = some_not P Q xs f h k.1

  pub some_any : {Z : Type 0} (P : A → Type 0) (xs : List A) → SomeOne P xs → ((x : A) → P x → Z) → Z
  some_any P [] h f = absurd h
  some_any P (x ∷ xs) (inl h) f = f x h
  some_any P (x ∷ xs) (inr h) f = some_any P xs h f

  pub one_some : (P : A → Type 0) (xs : List A) → ExactlyOne P xs → SomeOne P xs
  one_some P [] h = absurd h
  one_some P (x ∷ xs) (inl h) = inl h.0
  one_some P (x ∷ xs) (inr h) = inr (one_some P xs h.1)

module _ {A B : Type 0} (h : A → B) (P : B → Type 0) where
  pub some_mapped : (xs : List A) → SomeOne P (map h xs) → SomeOne (λ x. P (h x)) xs
  some_mapped [] k = absurd k
  some_mapped (x ∷ xs) (inl k) = inl k
  some_mapped (x ∷ xs) (inr k) = inr (some_mapped xs k)

  pub mapped_some : (xs : List A) → SomeOne (λ x. P (h x)) xs → SomeOne P (map h xs)
  mapped_some [] k = absurd k
  mapped_some (x ∷ xs) (inl k) = inl k
  mapped_some (x ∷ xs) (inr k) = inr (mapped_some xs k)

  pub all_mapped : (xs : List A) → AllByRecursion P (map h xs) → AllByRecursion (λ x. P (h x)) xs
  all_mapped [] k = tt
  all_mapped (x ∷ xs) k = (k.0, all_mapped xs k.1)

  pub mapped_all : (xs : List A) → AllByRecursion (λ x. P (h x)) xs → AllByRecursion P (map h xs)
  mapped_all [] k = tt
  mapped_all (x ∷ xs) k = (k.0, mapped_all xs k.1)

-- ---- tests that all members pass

both : (a b : Bool) → a ≡ true → b ≡ true → (a && b) ≡ true
both a b h k = λ i. h i && k i

left_of : (a b : Bool) → (a && b) ≡ true → a ≡ true
left_of true b h = refl
left_of false b h = h

right_of : (a b : Bool) → (a && b) ≡ true → b ≡ true
right_of true b h = h
right_of false b h = cc

module _ {A : Type 0} (p : A → Bool) where
  pub pass_first : (xs ys : List A) → list_all p (xs ++ ys) ≡ true → list_all p xs ≡ true
  pass_first [] ys h = refl
  pass_first (x ∷ xs) ys h =
      both (p x) (list_all p xs) (left_of (p x) (list_all p (xs ++ ys)) h) (pass_first xs ys (right_of (p x) (list_all p (xs ++ ys)) h))

  pub pass_last : (xs : List A) (y : A) → list_all p (xs ++ y ∷ []) ≡ true → p y ≡ true
  pass_last [] y h = left_of (p y) true h
  pass_last (x ∷ xs) y h = pass_last xs y (right_of (p x) (list_all p (xs ++ y ∷ [])) h)

  pub pass_with : (xs : List A) (y : A) → list_all p xs ≡ true → p y ≡ true → list_all p (xs ++ y ∷ []) ≡ true
  pass_with [] y h k = both (p y) true k refl
  pass_with (x ∷ xs) y h k =
      both (p x) (list_all p (xs ++ y ∷ [])) (left_of (p x) (list_all p xs) h) (pass_with xs y (right_of (p x) (list_all p xs) h) k)
