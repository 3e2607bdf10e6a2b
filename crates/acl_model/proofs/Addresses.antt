-- The addresses of a prefix.
use Rattle.std.proofs.Common.{◌≡◌, ◌∙◌, sym, ap, subst, ℕ, ◌+◌, ◌-◌, ◌*◌, ◌^◌, ◌≤◌, ◌<◌, arith}
use Rattle.std.proofs.Math.Nat.{mul-le-mul_right}
use Rattle.std.proofs.lemmas.Nat.{pow-add, pow_pos}
use Rattle.sefl_syntax.specs.declared.net.TableKind.TheVariants.{Fib}
use Rattle.table_lines.specs.Laws.{IsKey}
use Rattle.acl_rules.specs.Packets.{Range}
use Rattle.acl_model.specs.Fields.{span_of}

-- how many addresses there are, by the prefixes of a length
all_by : (length : ℕ) → length ≤ 32 → 2 ^ length * 2 ^ (32 - length) ≡ 2 ^ 32
all_by length short = let whole : length + (32 - length) ≡ 32 = omega (arith, short) in sym (pow-add 2 length (32 - length)) ∙ ap (λ n. 2 ^ n) whole

-- the last address of a prefix is one, where the first one is the k-th of its length
within_all : (address k size most : ℕ) → address ≡ k * size → address < most * size → address + size ≤ most * size
within_all address k size most is less =
    let past : most ≤ k → most * size ≤ k * size = (λ h. mul-le-mul_right size h) in
    let within : k + 1 ≤ most → (k + 1) * size ≤ most * size = (λ h. mul-le-mul_right size h) in
    grind (arith, past, within, is, less)

pub last_fits : (address length : ℕ) → IsKey Fib address length → address + 2 ^ (32 - length) ≤ 2 ^ 32
last_fits address length key =
    let all = all_by length key.0 in
    let less : address < 2 ^ length * 2 ^ (32 - length) = omega (arith, key.3, all) in
    let h : address + 2 ^ (32 - length) ≤ 2 ^ length * 2 ^ (32 - length) = within_all address key.1 (2 ^ (32 - length)) (2 ^ length) key.2 less in
    omega (arith, h, all)

pub span_fits : (address length : ℕ) (range : Range) → range ≡ span_of (address, length) → IsKey Fib address length → (range.0 ≤ range.1) × (range.1 < 2 ^ 32)
span_fits address length range is key =
    let last : address + 2 ^ (32 - length) ≤ 2 ^ 32 = last_fits address length key in
    let some : 0 < 2 ^ (32 - length) = pow_pos (32 - length) in
    subst (λ (r : Range). (r.0 ≤ r.1) × (r.1 < 2 ^ 32)) (sym is) (omega (arith, last, some), omega (arith, last, some))
