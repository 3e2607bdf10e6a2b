-- Lists: all members, one of them, and tests that all pass.
use Rattle.std.proofs.Common.{◌≡◌, ℕ, zero, suc, inl, inr, Bool, true, false, true≢false, ◌&&◌, List, [], ◌∷◌, ◌++◌, map, refl, sym, ap, subst, Some, slice_get}
use Rattle.std.specs.List.{AllByRecursion, list_all}
use Rattle.sefl_meaning.specs.Order.{Has}
use Rattle.exact_records.specs.Exact.{ExactlyOne, SomeOne}

module _ {A : Type 0} where
  pub all_weaker : (P Q : A → Type 0) (xs : List A) → ((x : A) → P x → Q x) → AllByRecursion P xs → AllByRecursion Q xs
  all_weaker P Q [] f h = tt
  all_weaker P Q (x ∷ xs) f h = (f x h.0, all_weaker P Q xs f h.1)

  pub all_of_has : (P : A → Type 0) (xs : List A) → ((x : A) → Has xs x → P x) → AllByRecursion P xs
  all_of_has P [] f = tt
  all_of_has P (x ∷ xs) f = (f x (inl refl), all_of_has P xs (λ y h. f y (inr h)))

  pub has_all : (P : A → Type 0) (xs : List A) (x : A) → AllByRecursion P xs → Has xs x → P x
  has_all P [] x h k = absurd k
  has_all P (y ∷ ys) x h (inl e) = subst P e h.0
  has_all P (y ∷ ys) x h (inr k) = has_all P ys x h.1 k

  pub all_at : (P : A → Type 0) (xs : List A) (n : ℕ) (x : A) → AllByRecursion P xs → slice_get xs n ≡ Some x → P x
  all_at P [] n x h e = absurd (cc)
  all_at P (y ∷ ys) zero x h e = let same : y ≡ x = cc in subst P same h.0
  all_at P (y ∷ ys) (suc n) x h e = all_at P ys n x h.1 e

  pub one_some : (P : A → Type 0) (xs : List A) → ExactlyOne P xs → SomeOne P xs
  one_some P [] h = absurd h
  one_some P (x ∷ xs) (inl h) = inl h.0
  one_some P (x ∷ xs) (inr h) = inr (one_some P xs h.1)

  pub same_first : {a b : A} {xs ys : List A} → a ∷ xs ≡ b ∷ ys → a ≡ b
  same_first e = cc

  pub same_rest : {a b : A} {xs ys : List A} → a ∷ xs ≡ b ∷ ys → xs ≡ ys
  same_rest e = cc

  pub no_more : {C : Type 0} {a : A} {xs : List A} → a ∷ xs ≡ [] → C
  no_more {C} {a} {xs} e = let bad : a ∷ xs ≡ [] = e in absurd (cc)

  pub append_nil : (xs : List A) → xs ++ [] ≡ xs
  append_nil [] = refl
  append_nil (x ∷ xs) = ap (λ zs. x ∷ zs) (append_nil xs)

  pub has_mapped : {B : Type 0} (f : A → B) (xs : List A) (x : A) → Has xs x → Has (map f xs) (f x)
  has_mapped f [] x h = absurd h
  has_mapped f (y ∷ ys) x (inl e) = inl (ap f e)
  has_mapped f (y ∷ ys) x (inr h) = inr (has_mapped f ys x h)

-- ---- tests

pub both : (a b : Bool) → a ≡ true → b ≡ true → (a && b) ≡ true
both a b h k = λ i. h i && k i

pub left_of : (a b : Bool) → (a && b) ≡ true → a ≡ true
left_of true b h = refl
left_of false b h = h

pub right_of : (a b : Bool) → (a && b) ≡ true → b ≡ true
right_of true b h = h
right_of false b h = absurd (true≢false (sym h))

pub right_fails : (a b : Bool) → a ≡ true → (a && b) ≡ false → b ≡ false
right_fails true b h k = k
right_fails false b h k = absurd (true≢false (sym h))

module _ {A : Type 0} (p : A → Bool) where
  pub has_pass : (xs : List A) (x : A) → list_all p xs ≡ true → Has xs x → p x ≡ true
  has_pass [] x h k = absurd k
  has_pass (y ∷ ys) x h (inl e) = subst (λ z. p z ≡ true) e (left_of (p y) (list_all p ys) h)
  has_pass (y ∷ ys) x h (inr k) = has_pass ys x (right_of (p y) (list_all p ys) h) k

  pub pass_append : (xs ys : List A) → list_all p xs ≡ true → list_all p ys ≡ true → list_all p (xs ++ ys) ≡ true
  pass_append [] ys h k = k
  pass_append (x ∷ xs) ys h k =
      both (p x) (list_all p (xs ++ ys)) (left_of (p x) (list_all p xs) h) (pass_append xs ys (right_of (p x) (list_all p xs) h) k)

  pub pass_first : (xs ys : List A) → list_all p (xs ++ ys) ≡ true → list_all p xs ≡ true
  pass_first [] ys h = refl
  pass_first (x ∷ xs) ys h =
      both (p x) (list_all p xs) (left_of (p x) (list_all p (xs ++ ys)) h) (pass_first xs ys (right_of (p x) (list_all p (xs ++ ys)) h))

  pub pass_later : (xs ys : List A) → list_all p (xs ++ ys) ≡ true → list_all p ys ≡ true
  pass_later [] ys h = h
  pass_later (x ∷ xs) ys h = pass_later xs ys (right_of (p x) (list_all p (xs ++ ys)) h)

  -- where the first ones pass and not all do, one of the later ones does not
  pub later_fails : (xs ys : List A) → list_all p xs ≡ true → list_all p (xs ++ ys) ≡ false → list_all p ys ≡ false
  later_fails [] ys h k = k
  later_fails (x ∷ xs) ys h k =
      later_fails xs ys (right_of (p x) (list_all p xs) h) (right_fails (p x) (list_all p (xs ++ ys)) (left_of (p x) (list_all p xs) h) k)
