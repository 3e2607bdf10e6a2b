-- Lists whose rests are equal, and lists of formulas that are the same.
use Rattle.std.proofs.Common.{◌≡◌, ℕ, zero, suc, ◌+◌, List, [], ◌∷◌, arith, drop, length, refl, sym, subst, None, slice_get}
use Rattle.path_formula.specs.View.{views}
use Rattle.path_formula.specs.declared.formula.Formula.{Formula}
use Rattle.same_formulas.specs.Same.{AllSame}

module _ {A : Type 0} where
  none_left : (ys : List A) (n : ℕ) → slice_get ys n ≡ None → drop n ys ≡ []
  none_left [] zero e = refl
  none_left [] (suc n) e = refl
  none_left (y ∷ ys) zero e = absurd (cc)
  none_left (y ∷ ys) (suc n) e = none_left ys n e

  one_more : (xs ys : List A) (n : ℕ) → slice_get xs n ≡ slice_get ys n → drop (suc n) xs ≡ drop (suc n) ys → drop n xs ≡ drop n ys
  one_more [] [] n at e = refl
  one_more [] (y ∷ ys) zero at e = absurd (cc)
  one_more [] (y ∷ ys) (suc n) at e = sym (none_left ys n (sym at))
  one_more (x ∷ xs) [] zero at e = absurd (cc)
  one_more (x ∷ xs) [] (suc n) at e = none_left xs n at
  one_more (x ∷ xs) (y ∷ ys) zero at e = let same : x ≡ y = cc in λ i. same i ∷ e i
  one_more (x ∷ xs) (y ∷ ys) (suc n) at e = one_more xs ys n at e

  pub rests_equal : (xs ys : List A) (n : ℕ) → slice_get xs n ≡ slice_get ys n → drop (n + 1) xs ≡ drop (n + 1) ys → drop n xs ≡ drop n ys
  rests_equal xs ys n at e = let more : n + 1 ≡ suc n = omega arith in one_more xs ys n at (subst (λ k. drop k xs ≡ drop k ys) more e)

pub same_length : (fs gs : List Formula) → AllSame (views fs) (views gs) → length fs ≡ length gs
same_length [] [] h = refl
same_length [] (g ∷ gs) h = absurd h
same_length (f ∷ fs) [] h = absurd h
same_length (f ∷ fs) (g ∷ gs) h = let rest : length fs ≡ length gs = same_length fs gs h.1 in omega (arith, rest)
