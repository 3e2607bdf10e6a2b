-- Texts of large numbers.
use Rattle.std.proofs.Common.{◌≡◌, ℕ, ◌^◌, ◌<◌, ◌≤◌, List, Bool, true, false, Some, None, Result, Ok, nat_lt, refl, sym, ap, ◌∙◌, arith}
use Rattle.std.specs.Prelude.{◌&&◌, if◌then◌else◌, nat_le, decimal}
use Rattle.std.specs.Str.{bytes_eq}
use Rattle.std.specs.Str.Parse.{digits_value, ParsesUnsigned}
use Rattle.std.proofs.lemmas.Bool.Decides.{nat_tests}
use Rattle.std.proofs.lemmas.Slice.Eq.{bytes_eq-Decides}
use Rattle.std.proofs.lemmas.Fmt.{decimal_is_IsNumeral_wide, parse-decimal_wide}
use Rattle.report_shape.specs.Numbers.{is_large, large_of}

pub both : (a b : Bool) → a && b ≡ true → (a ≡ true) × (b ≡ true)
both true b h = (refl, h)
both false b h = cc

pub at_most : (a b : ℕ) → nat_le a b ≡ true → a ≤ b
at_most a b h = grind (arith, nat_tests)

pub below : (a b : ℕ) → nat_lt a b ≡ true → a < b
below a b h = grind (arith, nat_tests)

pub above : (a b : ℕ) → nat_lt a b ≡ false → b ≤ a
above a b h = grind (arith, nat_tests)

pub tests : (s : List ℕ) (n v : ℕ) → v ≡ n → decimal n ≡ s → 2 ^ 64 ≤ n → n < 2 ^ 128 → bytes_eq (decimal v) s && (nat_le (2 ^ 64) v && nat_lt v (2 ^ 128)) ≡ true
tests s n v is e low high =
    let first : bytes_eq (decimal v) s ≡ true = (bytes_eq-Decides (decimal v) s).1 (ap decimal is ∙ e) in
    let second : nat_le (2 ^ 64) v ≡ true = grind (arith, nat_tests) in
    let third : nat_lt v (2 ^ 128) ≡ true = grind (arith, nat_tests) in
    rw (first, second, third) refl

pub large_some : (s : List ℕ) (n : ℕ) → decimal n ≡ s → 2 ^ 64 ≤ n → n < 2 ^ 128 → Some n ≡ large_of s
large_some s n e low high =
    let value : digits_value 10 s ≡ n = ap (digits_value 10) (sym e) ∙ (decimal_is_IsNumeral_wide n (omega arith)).1 in
    sym (ap (λ b. if b then Some (digits_value 10 s) else None) (tests s n (digits_value 10 s) value e low high) ∙ ap Some value)

refuted : {E : Type 0} (s : List ℕ) (r : Result ℕ E) (v : ℕ) → ParsesUnsigned 128 10 s r → ((n : ℕ) → r ≡ Ok n → decimal n ≡ s → n < 2 ^ 64) → bytes_eq (decimal v) s && (nat_le (2 ^ 64) v && nat_lt v (2 ^ 128)) ≡ true → ⊥
refuted s r v h none e =
    let p = both (bytes_eq (decimal v) s) (nat_le (2 ^ 64) v && nat_lt v (2 ^ 128)) e in
    let q = both (nat_le (2 ^ 64) v) (nat_lt v (2 ^ 128)) p.1 in
    let low = at_most (2 ^ 64) v q.0 in
    let high = below v (2 ^ 128) q.1 in
    let same = (bytes_eq-Decides (decimal v) s).0 p.0 in
    let small = none v (parse-decimal_wide 128 v s r high (omega arith) (sym same) h) same in
    omega arith

by_test : (s : List ℕ) (b : Bool) → is_large s ≡ b → (b ≡ true → ⊥) → None ≡ (if b then Some (digits_value 10 s) else None)
by_test s true e none = absurd (none refl)
by_test s false e none = refl

pub large_none : {E : Type 0} (s : List ℕ) (r : Result ℕ E) → ParsesUnsigned 128 10 s r → ((n : ℕ) → r ≡ Ok n → decimal n ≡ s → n < 2 ^ 64) → None ≡ large_of s
large_none s r h none = by_test s (is_large s) refl (refuted s r (digits_value 10 s) h none)

pub digits_are_large : (n : ℕ) → 2 ^ 64 ≤ n → n < 2 ^ 128 → is_large (decimal n) ≡ true
digits_are_large n low high = tests (decimal n) n (digits_value 10 (decimal n)) (decimal_is_IsNumeral_wide n (omega arith)).1 refl low high

numbered : (s : List ℕ) (n : ℕ) (b : Bool) → is_large s ≡ b → (if b then Some (digits_value 10 s) else None) ≡ Some n → (decimal n ≡ s) × (2 ^ 64 ≤ n) × (n < 2 ^ 128)
numbered s n true e h =
    let v = digits_value 10 s in
    let is : v ≡ n = cc in
    let p = both (bytes_eq (decimal v) s) (nat_le (2 ^ 64) v && nat_lt v (2 ^ 128)) e in
    let q = both (nat_le (2 ^ 64) v) (nat_lt v (2 ^ 128)) p.1 in
    let low = at_most (2 ^ 64) v q.0 in
    let high = below v (2 ^ 128) q.1 in
    (ap decimal (sym is) ∙ (bytes_eq-Decides (decimal v) s).0 p.0, omega arith, omega arith)
numbered s n false e h = cc

pub number_is_large : (s : List ℕ) (n : ℕ) → large_of s ≡ Some n → (decimal n ≡ s) × (2 ^ 64 ≤ n) × (n < 2 ^ 128)
number_is_large s n h = numbered s n (is_large s) refl h
