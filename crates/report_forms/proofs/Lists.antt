-- What holds of each member of a list.
use Rattle.std.proofs.Common.{◌≡◌, ◌∙◌, refl, sym, ap, subst, ℕ, zero, suc, ◌+◌, add-one, List, [], ◌∷◌, ◌++◌, drop, map, reverse, Option, Some, None, option_map, slice_get, unwrap_or}
use Rattle.std.proofs.lemmas.Option.{none-some}
use Rattle.std.proofs.lemmas.List.{reverse-append}
use Rattle.std.specs.Prelude.{flat_map}
use Rattle.std.specs.List.{AllByRecursion}

pub all_later : {X : Type 0} (P : X → Type 0) (xs ys : List X) → AllByRecursion P (xs ++ ys) → AllByRecursion P ys
all_later P [] ys h = h
all_later P (x ∷ xs) ys h = all_later P xs ys h.1

pub all_first : {X : Type 0} (P : X → Type 0) (xs ys : List X) → AllByRecursion P (xs ++ ys) → AllByRecursion P xs
all_first P [] ys h = tt
all_first P (x ∷ xs) ys h = (h.0, all_first P xs ys h.1)

all_append : {X : Type 0} (P : X → Type 0) (xs ys : List X) → AllByRecursion P xs → AllByRecursion P ys → AllByRecursion P (xs ++ ys)
all_append P [] ys hx hy = hy
all_append P (x ∷ xs) ys hx hy = (hx.0, all_append P xs ys hx.1 hy)

pub all_reverse : {X : Type 0} (P : X → Type 0) (xs : List X) → AllByRecursion P xs → AllByRecursion P (reverse xs)
all_reverse P [] h = tt
all_reverse P (x ∷ xs) h =
    subst (AllByRecursion P) (sym (reverse-append (x ∷ []) xs)) (all_append P (reverse xs) (x ∷ []) (all_reverse P xs h.1) (h.0, tt))

pub all_map : {X Y : Type 0} (P : X → Type 0) (Q : Y → Type 0) (f : X → Y) → ((x : X) → P x → Q (f x)) → (xs : List X) → AllByRecursion P xs
    → AllByRecursion Q (map f xs)
all_map P Q f each [] h = tt
all_map P Q f each (x ∷ xs) h = (each x h.0, all_map P Q f each xs h.1)

pub all_flat : {X Y : Type 0} (P : X → Type 0) (Q : Y → Type 0) (f : X → List Y) → ((x : X) → P x → AllByRecursion Q (f x)) → (xs : List X)
    → AllByRecursion P xs → AllByRecursion Q (flat_map f xs)
all_flat P Q f each [] h = tt
all_flat P Q f each (x ∷ xs) h = all_append Q (f x) (flat_map f xs) (each x h.0) (all_flat P Q f each xs h.1)

pub all_both : {X : Type 0} (P Q R : X → Type 0) → ((x : X) → P x → Q x → R x) → (xs : List X) → AllByRecursion P xs → AllByRecursion Q xs
    → AllByRecursion R xs
all_both P Q R each [] h k = tt
all_both P Q R each (x ∷ xs) h k = (each x h.0 k.0, all_both P Q R each xs h.1 k.1)

-- of any list
pub all_so : {X Y : Type 0} (Q : Y → Type 0) (f : X → Y) → ((x : X) → Q (f x)) → (xs : List X) → AllByRecursion Q (map f xs)
all_so Q f each [] = tt
all_so Q f each (x ∷ xs) = (each x, all_so Q f each xs)

-- of the member at a place
pub all_at : {X : Type 0} (P : X → Type 0) (xs : List X) (i : ℕ) (x : X) → AllByRecursion P xs → slice_get xs i ≡ Some x → P x
all_at P [] i x all is = absurd (none-some _ is)
all_at P (y ∷ ys) zero x all is = subst P (ap (λ o. unwrap_or o y) is) all.0
all_at P (y ∷ ys) (suc i) x all is = all_at P ys i x all.1 is

-- ---- read from a place on

next : {X : Type 0} (xs : List X) (i : ℕ) (x : X) → slice_get xs i ≡ Some x → drop i xs ≡ x ∷ drop (suc i) xs
next [] i x is = absurd (none-some _ is)
next (y ∷ xs) zero x is = let same : y ≡ x = ap (λ o. unwrap_or o y) is in ap (λ z. z ∷ xs) same
next (y ∷ xs) (suc i) x is = next xs i x is

-- the member at the place is so
pub read_one : {X : Type 0} (P : X → Type 0) (xs : List X) (i : ℕ) (x : X) → slice_get xs i ≡ Some x → P x
    → (AllByRecursion P (drop i xs) → AllByRecursion P xs) → AllByRecursion P (drop (i + 1) xs) → AllByRecursion P xs
read_one P xs i x is here rest h =
    let left : drop i xs ≡ x ∷ drop (i + 1) xs = next xs i x is ∙ ap (λ k. x ∷ drop k xs) (sym (add-one i)) in
    rest (subst (AllByRecursion P) (sym left) (here, h))

-- by what is told of it
pub read_named : {X Y : Type 0} (Q : Y → Type 0) (f : X → Y) (xs : List X) (i : ℕ) (y : Y) → option_map f (slice_get xs i) ≡ Some y → Q y
    → (AllByRecursion (λ x. Q (f x)) (drop i xs) → AllByRecursion (λ x. Q (f x)) xs) → AllByRecursion (λ x. Q (f x)) (drop (i + 1) xs)
    → AllByRecursion (λ x. Q (f x)) xs
read_named {X} {Y} Q f xs i y is here rest h = by (slice_get xs i) refl is
  where
    by : (o : Option X) → slice_get xs i ≡ o → option_map f o ≡ Some y → AllByRecursion (λ x. Q (f x)) xs
    by None p is = absurd (none-some _ is)
    by (Some x) p is = let same : f x ≡ y = ap (λ o. unwrap_or o y) is in read_one (λ x. Q (f x)) xs i x p (subst Q (sym same) here) rest h
