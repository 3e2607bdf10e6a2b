-- Lists that are compared member by member.
use Rattle.std.proofs.Common.{◌≡◌, ◌↔◌, ℕ, zero, suc, ◌<◌, true, false, IsTrue, List, [], ◌∷◌, length, map, get_or, refl, sym, ap, ◌∙◌, arith}
use Rattle.std.proofs.lemmas.List.{length-map}

pub no_yes : false ≡ true → ⊥
no_yes e = cc

-- an answer that is no, where the fact does not hold
no_fact : (P : Type 0) → (P → ⊥) → IsTrue false ↔ P
no_fact P h = (λ e. absurd (no_yes e), λ p. absurd (h p))

module _ {A B : Type 0} (f : A → B) where
  same_lengths : (xs ys : List A) → map f xs ≡ map f ys → length xs ≡ length ys
  same_lengths xs ys e = sym (length-map xs f) ∙ (ap length e ∙ length-map ys f)

  pub mapped_at : (xs : List A) (k : ℕ) (d : A) → f (get_or xs k d) ≡ get_or (map f xs) k (f d)
  mapped_at [] k d = refl
  mapped_at (x ∷ xs) zero d = refl
  mapped_at (x ∷ xs) (suc k) d = mapped_at xs k d

  at_any : {C : Type 0} (zs : List C) (k : ℕ) (a b : C) → k < length zs → get_or zs k a ≡ get_or zs k b
  at_any [] k a b h = absurd (omega (arith, h))
  at_any (z ∷ zs) zero a b h = refl
  at_any (z ∷ zs) (suc k) a b h = at_any zs k a b (omega (arith, h))

  -- lists that differ at a place differ
  pub other_members : (xs ys : List A) (k : ℕ) (x y : A) → k < length xs → x ≡ get_or xs k x → y ≡ get_or ys k y → (f x ≡ f y → ⊥)
      → IsTrue false ↔ (map f xs ≡ map f ys)
  other_members xs ys k x y less at_x at_y differ =
      no_fact (map f xs ≡ map f ys) (λ e. differ (
      ap f at_x
      ∙ (mapped_at xs k x
      ∙ (ap (λ (zs : List B). get_or zs k (f x)) e
      ∙ (at_any (map f ys) k (f x) (f y) (let l = length-map ys f in let m = same_lengths xs ys e in omega (arith, less, l, m))
      ∙ (sym (mapped_at ys k y) ∙ ap f (sym at_y)))))))
