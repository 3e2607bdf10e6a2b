-- Numbers in a row.
use Rattle.std.proofs.Common.{◌≡◌, ◌∙◌, sym, ap, ℕ, zero, suc, ◌+◌, [], ◌∷◌, ◌++◌, map, arith, add-one}
use Rattle.std.proofs.lemmas.List.{map-append}
use Rattle.job_gen.specs.Grown.{numbers_from}

pub numbers_more : (first n : ℕ) → numbers_from first (suc n) ≡ numbers_from first n ++ (first + n) ∷ []
numbers_more first zero = let e : first + 0 ≡ first = omega arith in ap (λ p. p ∷ []) (sym e)
numbers_more first (suc n) =
    let e : suc first + n ≡ first + suc n = omega arith in
    ap (λ ps. first ∷ ps) (numbers_more (suc first) n ∙ ap (λ p. numbers_from (suc first) n ++ p ∷ []) e)

pub numbers_next : (n : ℕ) → numbers_from 0 (n + 1) ≡ numbers_from 0 n ++ n ∷ []
numbers_next n = let e : 0 + n ≡ n = omega arith in rw add-one (numbers_more 0 n ∙ ap (λ p. numbers_from 0 n ++ p ∷ []) e)

pub map_next : {A : Type 0} (f : ℕ → A) (n : ℕ) → map f (numbers_from 0 (n + 1)) ≡ map f (numbers_from 0 n) ++ f n ∷ []
map_next f n = ap (map f) (numbers_next n) ∙ map-append f (numbers_from 0 n) (n ∷ [])
