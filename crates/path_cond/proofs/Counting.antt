-- Products, up to a greatest number.
use Rattle.std.proofs.Common.{◌≡◌, ℕ, zero, suc, ◌+◌, ◌-◌, ◌*◌, ◌^◌, ◌<◌, ◌≤◌, min, List, length, drop, get_or, sym, ap, ◌∙◌, mul_assoc, arith, ◌⊎◌, inl, inr}
use Rattle.std.proofs.lemmas.List.{drop_more}
use Rattle.std.proofs.Math.Nat.{mul-suc}
use Rattle.path_formula.specs.CaseCounts.{capped}
use Rattle.path_cond.specs.Counts.{product}

grows : (x k : ℕ) → x ≤ x * suc k
grows x k = omega (arith, mul-suc x k)

least : (x y : ℕ) → (x ≤ y) ⊎ (y < x)
least x y = search arith

cap_product : (most x n : ℕ) → min (min x most * n) most ≡ min (x * n) most
cap_product most x zero = omega arith
cap_product most x (suc k) =
    let a : min x most ≤ min x most * suc k = grows (min x most) k in
    let b : x ≤ x * suc k = grows x k in
    elim (least x most) [
      | inl small ↦ let e : min x most ≡ x = omega arith in ap (λ y. min (y * suc k) most) e
      | inr large ↦ omega arith
    ]

capped_left : (x n : ℕ) → capped (capped x * n) ≡ capped (x * n)
capped_left x n = cap_product (2 ^ 64 - 1) x n

-- one number more of a product
pub next_number : (numbers : List ℕ) (i total next : ℕ) → i < length numbers → next ≡ capped (total * get_or numbers i 0)
    → capped (total * product (drop i numbers)) ≡ capped (next * product (drop (i + 1) numbers))
next_number numbers i total next lt e =
    let n = get_or numbers i 0 in
    let rest = product (drop (i + 1) numbers) in
    ap (λ ns. capped (total * product ns)) (drop_more numbers i 0 lt) ∙ ap capped (sym (mul_assoc total n rest)) ∙ sym (capped_left (total * n) rest)
    ∙ ap (λ k. capped (k * rest)) (sym e)
