-- Numbers that are the same modulo m.
use Rattle.std.proofs.Common.{◌≡◌, ℕ, zero, suc, ◌+◌, ◌-◌, ◌*◌, ◌%◌, ◌^◌, ◌≤◌, sym, ap, ◌∙◌, arith, bit_and}
use Rattle.std.proofs.Math.Nat.{mod-add-mod, add-mod-mod, add-mul-mod_self_right}
use Rattle.std.proofs.Math.Pow.{mod-mod-pow}
use Rattle.std.proofs.lemmas.Nat.{mul-mod_first, and_mask}

-- a sum may be reduced part by part
pub same-add : (m a b c d : ℕ) → a % m ≡ b % m → c % m ≡ d % m → (a + c) % m ≡ (b + d) % m
same-add m a b c d p q =
    sym (mod-add-mod a m c) ∙ ap (λ (x : ℕ). (x + c) % m) p ∙ mod-add-mod b m c ∙ sym (add-mod-mod b c m) ∙ ap (λ (x : ℕ). (b + x) % m) q ∙ add-mod-mod b d m

-- a factor may be reduced
pub same-mul : (m a b c : ℕ) → a % m ≡ b % m → (a * c) % m ≡ (b * c) % m
same-mul m a b c p = sym (mul-mod_first a c m) ∙ ap (λ (x : ℕ). (x * c) % m) p ∙ mul-mod_first b c m

-- subtracting is adding, with the factor of minus one
pub subtract-by_factor : (m a b : ℕ) → b ≤ m → (a + (m - 1) * b) % m ≡ (a + (m - b)) % m
subtract-by_factor m a zero l =
    let left : a + (m - 1) * 0 ≡ a = omega arith in
    ap (λ (x : ℕ). x % m) left ∙ sym (add-mul-mod_self_right a 1 m) ∙ ap (λ (x : ℕ). x % m) (omega arith)
subtract-by_factor zero a (suc c) l = absurd (omega arith)
subtract-by_factor (suc k) a (suc c) l =
    let less : suc k - 1 ≡ k = omega arith in
    let e : a + k * suc c ≡ a + (suc k - suc c) + c * suc k = omega arith in
    ap (λ (x : ℕ). (a + x * suc c) % suc k) less ∙ ap (λ (x : ℕ). x % suc k) e ∙ add-mul-mod_self_right (a + (suc k - suc c)) c (suc k)

-- 128-bit arithmetic that wraps, and the mask of a width
pub masked : (w a b c mask : ℕ) → mask ≡ 2 ^ w - 1 → w ≤ 128 → bit_and ((a + b * c % 2 ^ 128) % 2 ^ 128) mask ≡ (a + b * c) % 2 ^ w
masked w a b c mask e narrow =
    let parts : 128 ≡ 128 - w + w = omega arith in
    let whole : (a + b * c % 2 ^ 128) % 2 ^ 128 ≡ (a + b * c) % 2 ^ 128 = add-mod-mod a (b * c) (2 ^ 128) in
    ap (bit_and ((a + b * c % 2 ^ 128) % 2 ^ 128)) e
    ∙ and_mask ((a + b * c % 2 ^ 128) % 2 ^ 128) w
    ∙ ap (λ (x : ℕ). x % 2 ^ w) whole
    ∙ ap (λ (k : ℕ). (a + b * c) % 2 ^ k % 2 ^ w) parts
    ∙ mod-mod-pow (a + b * c) (128 - w) w
