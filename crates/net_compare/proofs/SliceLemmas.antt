-- What is left of a list, seen by a function.
use Rattle.std.proofs.Common.{◌≡◌, ◌∙◌, ◌<◌, ℕ, ◌+◌, List, ◌∷◌, drop, get_or, length, map, sym, ap}
use Rattle.std.proofs.lemmas.List.{drop_more}

pub split_mapped : {A B : Type 0} (f : A → B) (xs : List A) (n : ℕ) (x : A) → n < length xs → x ≡ get_or xs n x → map f (drop n xs) ≡ f x ∷ map f (drop (n + 1) xs)
split_mapped f xs n x less is = ap (map f) (drop_more xs n x less ∙ ap (λ y. y ∷ drop (n + 1) xs) (sym is))
