-- Parts of an ascending list, as rotations put them together.
use Rattle.std.proofs.Common.{◌≡◌, List, [], ◌∷◌, Some, None, refl, ◌++◌, ◌∙◌, sym, ap, subst}
use Rattle.std.specs.declared.cmp.Ordering.{Ordering}
use Rattle.sn_tree.specs.Ends.{first, tail}
use Rattle.sn_tree.specs.Pairs.{IsAscending}
use Rattle.sn_tree.proofs.Ascending.{regroup, inner_left, inner_right}

module _ {K V : Type 0} (cmp : K → K → Ordering) where
  -- of a list with `xs`, `p` and `ys` on its left, what begins with `ys`
  pub after_left : (whole xs : List (K × V)) (p : K × V) (ys : List (K × V)) (q : K × V) (zs : List (K × V)) → whole ≡ xs ++ p ∷ ys → IsAscending cmp (whole ++ q ∷ zs) → IsAscending cmp (ys ++ q ∷ zs)
  after_left whole xs p ys q zs e a =
      let all = subst (IsAscending cmp) (ap (λ z. z ++ q ∷ zs) e) a in
      inner_right cmp xs p (ys ++ q ∷ zs) (subst (IsAscending cmp) (regroup xs p ys q zs) all)

  -- of a list with `xs`, `p` and `ys` on its right, what ends with `xs`
  pub before_right : (zs : List (K × V)) (q : K × V) (whole xs : List (K × V)) (p : K × V) (ys : List (K × V)) → whole ≡ xs ++ p ∷ ys → IsAscending cmp (zs ++ q ∷ whole) → IsAscending cmp (zs ++ q ∷ xs)
  before_right zs q whole xs p ys e a = inner_left cmp zs q xs p ys (subst (IsAscending cmp) (ap (λ z. zs ++ q ∷ z) e) a)

pub right_whole : {X : Type 0} (zs : List X) (q : X) (xs : List X) (p : X) (ys whole m : List X) → whole ≡ xs ++ p ∷ ys → m ≡ zs ++ q ∷ xs → m ++ p ∷ ys ≡ zs ++ q ∷ whole
right_whole zs q xs p ys whole m e h = ap (λ z. z ++ p ∷ ys) h ∙ regroup zs q xs p ys ∙ ap (λ z. zs ++ q ∷ z) (sym e)

pub tail_whole : {X : Type 0} (xs : List X) (p : X) (ys m : List X) → (xs ≡ [] → ⊥) → m ≡ tail xs → m ++ p ∷ ys ≡ tail (xs ++ p ∷ ys)
tail_whole [] p ys m h e = absurd (h refl)
tail_whole (x ∷ xs) p ys m h e = ap (λ z. z ++ p ∷ ys) e

pub tail_ascends : {K V : Type 0} (cmp : K → K → Ordering) (xs : List (K × V)) (p : K × V) (ys m : List (K × V)) → m ≡ tail xs → IsAscending cmp (xs ++ p ∷ ys) → IsAscending cmp (m ++ p ∷ ys)
tail_ascends cmp [] p ys m e a = subst (IsAscending cmp) (ap (λ z. z ++ p ∷ ys) (sym e)) a
tail_ascends cmp (x ∷ xs) p ys m e a = subst (IsAscending cmp) (ap (λ z. z ++ p ∷ ys) (sym e)) a.1

-- a list is its first element and the others
pub from_ends : {X : Type 0} (xs : List X) (p : X) (m : List X) → Some p ≡ first xs → m ≡ tail xs → p ∷ m ≡ xs
from_ends [] p m h e = cc
from_ends (x ∷ xs) p m h e = cc

pub none_from_ends : {X : Type 0} (xs : List X) → None ≡ first xs → xs ≡ []
none_from_ends [] h = refl
none_from_ends (x ∷ xs) h = cc
