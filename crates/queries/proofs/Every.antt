-- Going over all questions.
use Rattle.std.proofs.Common.{◌≡◌, ℕ, zero, suc, ◌+◌, ◌≤◌, ◌<◌, List, [], ◌∷◌, length, refl, sym, ap, subst, arith, slice_index_or, slice_set}
use Rattle.queries.specs.Holding.{Partly}

module _ {Q K : Type 0} (P R : Q → K → Type 0) where
  pub partly_none : (qs : List Q) (ks : List K) → Partly R R 0 qs ks → Partly P R 0 qs ks
  partly_none [] [] p = tt
  partly_none [] (y ∷ ks) p = absurd p
  partly_none (x ∷ qs) [] p = absurd p
  partly_none (x ∷ qs) (y ∷ ks) p = (p.0, partly_none qs ks p.1)

  pub partly_on : (n : ℕ) (qs : List Q) (ks : List K) (q : Q) (k fresh : K) → n < length qs → q ≡ slice_index_or qs n q → k ≡ slice_index_or ks n k → (R q k → P q fresh)
      → Partly P R n qs ks → Partly P R (suc n) qs (slice_set ks n fresh)
  partly_on zero [] ks q k fresh less e h f p = let bad : ⊥ = omega (arith, less) in absurd bad
  partly_on (suc n) [] ks q k fresh less e h f p = let bad : ⊥ = omega (arith, less) in absurd bad
  partly_on zero (x ∷ qs) [] q k fresh less e h f p = absurd p
  partly_on (suc n) (x ∷ qs) [] q k fresh less e h f p = absurd p
  partly_on zero (x ∷ qs) (y ∷ ks) q k fresh less e h f p =
      (subst (λ z. P z fresh) e (f (subst (λ z. R z k) (sym e) (subst (R x) (sym h) p.0))), p.1)
  partly_on (suc n) (x ∷ qs) (y ∷ ks) q k fresh less e h f p = (p.0, partly_on n qs ks q k fresh (let below : n < length qs = omega (arith, less) in below) e h f p.1)

  pub partly_all : (n : ℕ) (qs : List Q) (ks : List K) → length qs ≤ n → Partly P R n qs ks → Partly P P 0 qs ks
  partly_all zero [] [] h p = tt
  partly_all (suc n) [] [] h p = tt
  partly_all zero [] (y ∷ ks) h p = absurd p
  partly_all (suc n) [] (y ∷ ks) h p = absurd p
  partly_all zero (x ∷ qs) [] h p = absurd p
  partly_all (suc n) (x ∷ qs) [] h p = absurd p
  partly_all zero (x ∷ qs) (y ∷ ks) h p = let bad : ⊥ = omega (arith, h) in absurd bad
  partly_all (suc n) (x ∷ qs) (y ∷ ks) h p = (p.0, partly_all n qs ks (let less : length qs ≤ n = omega (arith, h) in less) p.1)

  pub partly_next : (n : ℕ) (qs : List Q) (ks : List K) (q : Q) (k fresh : K) → n < length qs → q ≡ slice_index_or qs n q → k ≡ slice_index_or ks n k → (R q k → P q fresh)
      → Partly P R n qs ks → Partly P R (n + 1) qs (slice_set ks n fresh)
  partly_next n qs ks q k fresh less e h f p =
      let one : suc n ≡ n + 1 = omega arith in
      subst (λ m. Partly P R m qs (slice_set ks n fresh)) one (partly_on n qs ks q k fresh less e h f p)

pub set_keeps : {A : Type 0} (xs : List A) (n : ℕ) (x : A) → length (slice_set xs n x) ≡ length xs
set_keeps [] zero x = refl
set_keeps [] (suc n) x = refl
set_keeps (y ∷ xs) zero x = refl
set_keeps (y ∷ xs) (suc n) x = ap suc (set_keeps xs n x)
