-- Lists by their first member.
use Rattle.std.proofs.Common.{◌≡◌, ℕ, ◌+◌, ◌-◌, ◌<◌, List, [], ◌∷◌, length, get_or, take, drop, suc, refl, sym, ◌∙◌, ap, add-one, drop-cons}
use Rattle.std.proofs.lemmas.List.{take_rest}
use Rattle.std.specs.Prelude.{Some, None}
use Rattle.sn_tree.specs.Ends.{first, tail}

-- a slice by its first member
pub first_of : {A : Type 0} (xs : List A) (x : A) → 0 < length xs → x ≡ get_or xs 0 x → xs ≡ x ∷ take (length xs - 1) (drop 1 xs)
first_of xs x h is = next_of xs 0 x h is ∙ ap (λ l. x ∷ l) (sym (take_rest xs 1))
  where
    next_of : {A : Type 0} (xs : List A) (i : ℕ) (x : A) → i < length xs → x ≡ get_or xs i x → drop i xs ≡ x ∷ drop (i + 1) xs
    next_of xs i x h is = rw add-one (drop-cons xs i x h ∙ ap (λ y. y ∷ drop (suc i) xs) (sym is))

-- a stack by its top
pub by_top : {A : Type 0} (xs rest : List A) (x : A) → Some x ≡ first xs → rest ≡ tail xs → xs ≡ x ∷ rest
by_top [] rest x h t = cc
by_top (y ∷ ys) rest x h t = λ i. same i ∷ sym t i
  where
    same : y ≡ x
    same = cc

-- a stack without a top
pub no_top : {A : Type 0} (xs : List A) → None ≡ first xs → xs ≡ []
no_top [] h = refl
no_top (x ∷ xs) h = cc
