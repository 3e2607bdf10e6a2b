-- Zeros behind the values of a verdict.
use Rattle.std.proofs.Common.{◌≡◌, ℕ, zero, suc, ◌+◌, ◌-◌, ◌≤◌, List, [], ◌∷◌, ◌++◌, replicate, refl, sym, ap, ◌∙◌, append_assoc, arith}
use Rattle.std.proofs.lemmas.List.{append-nil}

more_zeros : (n : ℕ) → replicate n zero ++ zero ∷ [] ≡ replicate (suc n) zero
more_zeros zero = refl
more_zeros (suc n) = ap (λ (l : List ℕ). 0 ∷ l) (more_zeros n)

-- no zero yet
pub filled_none : (values items : List ℕ) (n : ℕ) → items ≡ values → items ≡ values ++ replicate (n - n) 0
filled_none values items n e =
    let none : 0 ≡ n - n = omega arith in
    e ∙ sym (append-nil values) ∙ ap (λ (m : ℕ). values ++ replicate m 0) none

-- one zero more
pub filled_next : (values items more : List ℕ) (n place : ℕ) → n ≤ place → items ≡ values ++ replicate (place - n) 0 → more ≡ items ++ 0 ∷ []
    → more ≡ values ++ replicate (place + 1 - n) 0
filled_next values items more n place behind e is =
    let k : ℕ = place - n in
    let next : suc k ≡ place + 1 - n = omega (arith, behind) in
    is ∙ ap (λ (l : List ℕ). l ++ 0 ∷ []) e ∙ append_assoc values (replicate k 0) (0 ∷ [])
    ∙ ap (λ (l : List ℕ). values ++ l) (more_zeros k ∙ ap (λ (m : ℕ). replicate m 0) next)
