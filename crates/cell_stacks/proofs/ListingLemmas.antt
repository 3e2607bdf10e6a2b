-- What a list that grows member by member stands for.
use Rattle.std.proofs.Common.{◌≡◌, List, [], ◌∷◌, ◌++◌, refl, sym, ap, ◌∙◌, map, reverse}
use Rattle.std.proofs.lemmas.List.{append-nil, map-append, reverse-append}

module _ {X Y : Type 0} (f : X → Y) where
  -- at the end it is the whole
  pub listed_all : (xs : List X) (rest whole : List Y) → map f xs ++ rest ≡ whole → rest ≡ [] → map f xs ≡ whole
  listed_all xs rest whole h e = sym (append-nil (map f xs)) ∙ ap (λ z. map f xs ++ z) (sym e) ∙ h

  pub map_reverse : (xs : List X) → map f (reverse xs) ≡ reverse (map f xs)
  map_reverse [] = refl
  map_reverse (x ∷ xs) =
      ap (map f) (reverse-append (x ∷ []) xs) ∙ map-append f (reverse xs) (x ∷ []) ∙ ap (λ z. z ++ f x ∷ []) (map_reverse xs) ∙ sym (reverse-append (f x ∷ []) (map f xs))
