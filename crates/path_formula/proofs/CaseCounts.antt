-- The lengths of lists of cases.
use Rattle.std.proofs.Common.{◌≡◌, ℕ, zero, suc, ◌+◌, ◌-◌, ◌*◌, ◌^◌, ◌<◌, ◌≤◌, min, List, [], ◌∷◌, ◌++◌, length, length-append, sym, ap, ap₂, ◌∙◌, mul_assoc, arith, ◌⊎◌, inl, inr}
use Rattle.std.specs.List.{flat_map}
use Rattle.std.proofs.lemmas.List.{length-map}
use Rattle.std.proofs.Math.Nat.{mul_comm, mul-suc, suc-mul}
use Rattle.sn_width.specs.declared.rel.Rel.{Rel}
use Rattle.path_formula.specs.Bounds.{Case}
use Rattle.path_formula.specs.Cases.{with_bounds, joined}
use Rattle.path_formula.specs.CaseCounts.{capped}
use Rattle.path_formula.specs.Pairs.{relation_cases, in_regions, region_cases, row_cases, pair_cases}
use Rattle.path_formula.specs.declared.pairs.Region.{Region}

mul_one_more : (k n : ℕ) → suc k * n ≡ n + k * n
mul_one_more k n = omega (arith, suc-mul k n)

-- each of the elements gives as many
length_each : {A B : Type 0} (f : A → List B) (n : ℕ) (xs : List A) → ((x : A) → length (f x) ≡ n) → length (flat_map f xs) ≡ length xs * n
length_each f n [] h = omega arith
length_each f n (x ∷ xs) h =
    let rest = length_each f n xs h in
    let here = h x in
    let split : length (x ∷ xs) * n ≡ n + length xs * n = mul_one_more (length xs) n in
    length-append (f x) (flat_map f xs) ∙ ap₂ ◌+◌ here rest ∙ sym split

pub length_joined : (xs ys : List Case) → length (joined xs ys) ≡ length xs * length ys
length_joined xs ys = length_each (with_bounds ys) (length ys) xs (λ x. length-map ys (λ (c : Case). x ++ c))

pub length_pair : (rel : Rel) (ps qs : List Region) (n : ℕ) → ((p q : Region) → length (relation_cases rel p q) ≡ n) → length (pair_cases rel ps qs) ≡ length ps * (length qs * n)
length_pair rel ps qs n h =
    length_each (row_cases rel qs) (length qs * n) ps (λ p. length_each (region_cases rel p) n qs (λ q. length-map (relation_cases rel p q) (in_regions p q) ∙ h p q))

grows : (x k : ℕ) → x ≤ x * suc k
grows x k = omega (arith, mul-suc x k)

least : (x y : ℕ) → (x ≤ y) ⊎ (y < x)
least x y = search arith

pub cap_product : (most x n : ℕ) → min (min x most * n) most ≡ min (x * n) most
cap_product most x zero = omega arith
cap_product most x (suc k) =
    let a : min x most ≤ min x most * suc k = grows (min x most) k in
    let b : x ≤ x * suc k = grows x k in
    elim (least x most) [
      | inl small ↦ let e : min x most ≡ x = omega arith in ap (λ y. min (y * suc k) most) e
      | inr large ↦ omega arith
    ]

pub capped_product : (x n : ℕ) → capped (capped x * n) ≡ capped (x * n)
capped_product x n = cap_product (2 ^ 64 - 1) x n

pub capped_product_right : (n x : ℕ) → capped (n * capped x) ≡ capped (n * x)
capped_product_right n x = ap capped (mul_comm n (capped x)) ∙ capped_product x n ∙ ap capped (mul_comm x n)

-- a product with one more factor known
pub next_product : (count more a b next : ℕ) → more ≡ capped a → next ≡ capped (count * more) → capped (count * (a * b)) ≡ capped (next * b)
next_product count more a b next is_more is_next =
    ap capped (sym (mul_assoc count a b)) ∙ sym (capped_product (count * a) b)
    ∙ ap (λ n. capped (n * b)) (sym (capped_product_right count a) ∙ ap (λ n. capped (count * n)) (sym is_more) ∙ sym is_next)

pub next_sum : (count more a b next : ℕ) → more ≡ capped a → next ≡ capped (count + more) → capped (count + (a + b)) ≡ capped (next + b)
next_sum count more a b next is_more is_next = omega arith

pub whole_product : (count : ℕ) → count < 2 ^ 64 → capped (count * 1) ≡ count
whole_product count h = omega arith

pub whole_sum : (count : ℕ) → count < 2 ^ 64 → capped (count + 0) ≡ count
whole_sum count h = omega arith

pub whole : (count length : ℕ) → count < 2 ^ 64 → length ≡ count → count ≡ capped length
whole count length h e = omega arith
