-- Texts of ports.
use Rattle.std.proofs.Common.{◌≡◌, ℕ, ◌^◌, ◌<◌, List, Bool, true, false, Some, None, Result, Ok, nat_lt, refl, sym, ap, ◌∙◌, arith}
use Rattle.std.specs.Prelude.{◌&&◌, if◌then◌else◌, decimal, bytes_eq}
use Rattle.std.specs.Str.Parse.{digits_value, ParsesUnsigned}
use Rattle.std.proofs.lemmas.Bool.Decides.{nat_tests}
use Rattle.std.proofs.lemmas.Slice.Eq.{bytes_eq-Decides}
use Rattle.std.proofs.lemmas.Fmt.{decimal_is_IsNumeral_wide, parse-decimal_wide}
use Rattle.report_names.specs.Names.{port_of}

pub both : (a b : Bool) → a && b ≡ true → (a ≡ true) × (b ≡ true)
both true b h = (refl, h)
both false b h = cc

pub below : (a b : ℕ) → nat_lt a b ≡ true → a < b
below a b h = grind (arith, nat_tests)

tests : (s : List ℕ) (n v : ℕ) → v ≡ n → decimal n ≡ s → n < 2 ^ 32 → nat_lt v (2 ^ 32) && bytes_eq (decimal v) s ≡ true
tests s n v is e high =
    let first : nat_lt v (2 ^ 32) ≡ true = grind (arith, nat_tests) in
    let second : bytes_eq (decimal v) s ≡ true = (bytes_eq-Decides (decimal v) s).1 (ap decimal is ∙ e) in
    rw (first, second) refl

pub port_some : (s : List ℕ) (n : ℕ) → decimal n ≡ s → n < 2 ^ 32 → Some n ≡ port_of s
port_some s n e high =
    let value : digits_value 10 s ≡ n = ap (digits_value 10) (sym e) ∙ (decimal_is_IsNumeral_wide n (omega arith)).1 in
    sym (ap (λ b. if b then Some (digits_value 10 s) else None) (tests s n (digits_value 10 s) value e high) ∙ ap Some value)

refuted : {E : Type 0} (s : List ℕ) (r : Result ℕ E) (v : ℕ) → ParsesUnsigned 32 10 s r → ((n : ℕ) → r ≡ Ok n → decimal n ≡ s → ⊥) → nat_lt v (2 ^ 32) && bytes_eq (decimal v) s ≡ true → ⊥
refuted s r v h none e =
    let p = both (nat_lt v (2 ^ 32)) (bytes_eq (decimal v) s) e in
    let high = below v (2 ^ 32) p.0 in
    let same = (bytes_eq-Decides (decimal v) s).0 p.1 in
    none v (parse-decimal_wide 32 v s r high (omega arith) (sym same) h) same

by_test : (s : List ℕ) (b : Bool) → nat_lt (digits_value 10 s) (2 ^ 32) && bytes_eq (decimal (digits_value 10 s)) s ≡ b → (b ≡ true → ⊥) → None ≡ (if b then Some (digits_value 10 s) else None)
by_test s true e none = absurd (none refl)
by_test s false e none = refl

pub port_none : {E : Type 0} (s : List ℕ) (r : Result ℕ E) → ParsesUnsigned 32 10 s r → ((n : ℕ) → r ≡ Ok n → decimal n ≡ s → ⊥) → None ≡ port_of s
port_none s r h none = by_test s (nat_lt (digits_value 10 s) (2 ^ 32) && bytes_eq (decimal (digits_value 10 s)) s) refl (refuted s r (digits_value 10 s) h none)

ported : (s : List ℕ) (n : ℕ) (b : Bool) → nat_lt (digits_value 10 s) (2 ^ 32) && bytes_eq (decimal (digits_value 10 s)) s ≡ b → (if b then Some (digits_value 10 s) else None) ≡ Some n →
    (decimal n ≡ s) × (n < 2 ^ 32)
ported s n true e h =
    let v = digits_value 10 s in
    let is : v ≡ n = cc in
    let p = both (nat_lt v (2 ^ 32)) (bytes_eq (decimal v) s) e in
    let low = below v (2 ^ 32) p.0 in
    (ap decimal (sym is) ∙ (bytes_eq-Decides (decimal v) s).0 p.1, omega arith)
ported s n false e h = cc

-- the text of a port is its digits
pub port_is : (s : List ℕ) (n : ℕ) → port_of s ≡ Some n → (decimal n ≡ s) × (n < 2 ^ 32)
port_is s n h = ported s n (nat_lt (digits_value 10 s) (2 ^ 32) && bytes_eq (decimal (digits_value 10 s)) s) refl h
