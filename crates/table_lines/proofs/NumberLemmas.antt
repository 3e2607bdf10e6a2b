-- Numbers stay small while digits and bytes are added.
use Rattle.std.proofs.Common.{◌≡◌, ℕ, zero, suc, ◌+◌, ◌*◌, ◌^◌, ◌≤◌, ◌<◌, arith}
use Rattle.std.proofs.Math.Nat.{mul-le-mul_right}
use Rattle.std.proofs.lemmas.Nat.{pow-add}

product : (a b : ℕ) → a * b ≡ b * a
product a b = grind arith

-- one more digit
pub digit_more : (value base digit i : ℕ) → base ≤ 16 → digit < base → value < 16 ^ i → value * base + digit < 16 ^ (i + 1)
digit_more value base digit i most less room =
    let h : base * value ≤ 16 * value = mul-le-mul_right value most in
    omega (arith, h, less, most, room, product value base, pow-add 16 i 1)

pub few_digits : (i : ℕ) → i < 7 → 16 ^ (i + 1) ≤ 268435456
few_digits zero h = omega arith
few_digits (suc zero) h = omega arith
few_digits (suc (suc zero)) h = omega arith
few_digits (suc (suc (suc zero))) h = omega arith
few_digits (suc (suc (suc (suc zero)))) h = omega arith
few_digits (suc (suc (suc (suc (suc zero))))) h = omega arith
few_digits (suc (suc (suc (suc (suc (suc zero)))))) h = omega arith
few_digits (suc (suc (suc (suc (suc (suc (suc i))))))) h = absurd (omega (arith, h))

-- one more byte
pub byte_more : (value byte i : ℕ) → byte ≤ 255 → value < 256 ^ i → value * 256 + byte < 256 ^ (i + 1)
byte_more value byte i most room = omega (arith, most, room, pow-add 256 i 1)

pub few_bytes : (i : ℕ) → i < 6 → 256 ^ (i + 1) ≤ 281474976710656
few_bytes zero h = omega arith
few_bytes (suc zero) h = omega arith
few_bytes (suc (suc zero)) h = omega arith
few_bytes (suc (suc (suc zero))) h = omega arith
few_bytes (suc (suc (suc (suc zero)))) h = omega arith
few_bytes (suc (suc (suc (suc (suc zero))))) h = omega arith
few_bytes (suc (suc (suc (suc (suc (suc i)))))) h = absurd (omega (arith, h))
