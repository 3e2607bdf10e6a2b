-- Operations respect the function that changes nothing.
use Rattle.std.proofs.Common.{◌≡◌, ℕ, Bool, List, [], ◌∷◌, map, refl, ap}
use Rattle.sefl_meaning.specs.Values.{Values}
use Rattle.sefl_meaning.specs.Valued.{Keeps, Respects}

same_list : {A : Type 0} (xs : List A) → xs ≡ map (λ x. x) xs
same_list [] = refl
same_list {A} (x ∷ xs) = ap (λ (ys : List A). x ∷ ys) (same_list xs)

pub itself : {V F : Type 0} (fits : ℕ → V → Bool) (o : Values V F) → Keeps fits o → Respects fits o o (λ x. x) (λ t. t)
itself fits o keeps = record {
  keeps = keeps;
  constant = λ w n. refl;
  plus = λ w a b ha hb. refl;
  minus = λ w a b ha hb. refl;
  unknown = λ w i. refl;
  choice = λ w k. refl;
  compare = λ w rel a b ha hb. refl;
  member = λ w a ranges ha. refl;
  always = refl;
  all_of = λ fs. ap o.all_of (same_list fs);
  any_of = λ fs. ap o.any_of (same_list fs);
  negation = λ t. refl;
}
