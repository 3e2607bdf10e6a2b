-- Equalities of options, and members of lists.
use Rattle.std.proofs.Common.{◌≡◌, inl, inr, List, [], ◌∷◌, ◌++◌, refl, ap, ◌∙◌, Option, Some, None, option_map}
use Rattle.std.specs.List.{AllByRecursion}
use Rattle.sefl_meaning.specs.declared.walk.Decision.{Decision}
use Rattle.exact_records.specs.Exact.{SomeOne}

pub some_same : {A : Type 0} {x y : A} → Some x ≡ Some y → x ≡ y
some_same e = cc e

pub not_some : {A C : Type 0} (x : A) → None ≡ Some x → C
not_some x e = absurd (clash x e)
  where
    clash : {A : Type 0} (x : A) → None ≡ Some x → ⊥
    clash x e = cc e

pub mapped_some : {A B : Type 0} (f : A → B) (o : Option A) (y : B) → option_map f o ≡ Some y → (x : A) × (o ≡ Some x) × (f x ≡ y)
mapped_some f None y e = not_some y e
mapped_some f (Some x) y e = (x, refl, some_same e)

-- of members that all have the first property, one has the second
pub one_of : {A C : Type 0} (P Q : A → Type 0) (xs : List A) → AllByRecursion P xs → SomeOne Q xs → ((x : A) → P x → Q x → C) → C
one_of P Q [] all one k = absurd one
one_of P Q (x ∷ xs) all (inl h) k = k x all.0 h
one_of P Q (x ∷ xs) all (inr h) k = one_of P Q xs all.1 h k

pub all_map : {A : Type 0} (P Q : A → Type 0) (xs : List A) → AllByRecursion P xs → ((x : A) → P x → Q x) → AllByRecursion Q xs
all_map P Q [] all k = tt
all_map P Q (x ∷ xs) all k = (k x all.0, all_map P Q xs all.1 k)

pub all_both : {A : Type 0} (P Q : A → Type 0) (xs : List A) → AllByRecursion P xs → AllByRecursion Q xs → AllByRecursion (λ x. P x × Q x) xs
all_both P Q [] p q = tt
all_both P Q (x ∷ xs) p q = ((p.0, q.0), all_both P Q xs p.1 q.1)

pub all_behind : {A : Type 0} (P : A → Type 0) (xs ys : List A) → AllByRecursion P (xs ++ ys) → AllByRecursion P ys
all_behind P [] ys all = all
all_behind P (x ∷ xs) ys all = all_behind P xs ys all.1

pub all_before : {A : Type 0} (P : A → Type 0) (xs ys : List A) → AllByRecursion P (xs ++ ys) → AllByRecursion P xs
all_before P [] ys all = tt
all_before P (x ∷ xs) ys all = (all.0, all_before P xs ys all.1)

-- a list without its last member is one list
pub same_parent : (p q : List Decision) (c d : Decision) → p ++ c ∷ [] ≡ q ++ d ∷ [] → p ≡ q
same_parent [] [] c d e = refl
same_parent [] (y ∷ []) c d e = absurd (short c y d e)
  where
    short : (c y d : Decision) → c ∷ [] ≡ y ∷ d ∷ [] → ⊥
    short c y d e = cc e
same_parent [] (y ∷ z ∷ q) c d e = absurd (short c y z (q ++ d ∷ []) e)
  where
    short : (c y z : Decision) (rest : List Decision) → c ∷ [] ≡ y ∷ z ∷ rest → ⊥
    short c y z rest e = cc e
same_parent (x ∷ []) [] c d e = absurd (short x c d e)
  where
    short : (x c d : Decision) → x ∷ c ∷ [] ≡ d ∷ [] → ⊥
    short x c d e = cc e
same_parent (x ∷ z ∷ p) [] c d e = absurd (short x z d (p ++ c ∷ []) e)
  where
    short : (x z d : Decision) (rest : List Decision) → x ∷ z ∷ rest ≡ d ∷ [] → ⊥
    short x z d rest e = cc e
same_parent (x ∷ p) (y ∷ q) c d e =
    let parts = both x y (p ++ c ∷ []) (q ++ d ∷ []) e in
    first x y p q parts.0 (same_parent p q c d parts.1)
  where
    both : (x y : Decision) (xs ys : List Decision) → x ∷ xs ≡ y ∷ ys → (x ≡ y) × (xs ≡ ys)
    both x y xs ys e = (cc e, cc e)

    first : (x y : Decision) (p q : List Decision) → x ≡ y → p ≡ q → x ∷ p ≡ y ∷ q
    first x y p q e f = ap (λ z. z ∷ p) e ∙ ap (λ zs. y ∷ zs) f
