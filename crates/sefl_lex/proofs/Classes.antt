-- The classes of bytes are apart.
use Rattle.std.proofs.Common.{◌≡◌, ℕ, true, false, List, [], ◌∷◌, refl, arith}
use Rattle.std.proofs.lemmas.Bool.Decides.{nat_tests}
use Rattle.sefl_lex.specs.Bytes.{is_blank, is_name_start, is_decimal, is_name_byte, is_single, is_pair}
use Rattle.sefl_lex.specs.Words.{is_digit, begins_comment}

-- only a slash begins a comment
pub no_comment : (c : ℕ) (rest : List ℕ) → (c ≡ 47 → ⊥) → begins_comment (c ∷ rest) ≡ false
no_comment c [] h = refl
no_comment c (d ∷ rest) h = grind (arith, nat_tests)

pub name_start_apart : (c : ℕ) → is_name_start c ≡ true → (is_blank c ≡ false) × (c ≡ 47 → ⊥)
name_start_apart c h = (grind (arith, nat_tests), grind (arith, nat_tests))

pub decimal_apart : (c : ℕ) → is_decimal c ≡ true → (is_blank c ≡ false) × (c ≡ 47 → ⊥) × (is_name_start c ≡ false)
decimal_apart c h = (grind (arith, nat_tests), grind (arith, nat_tests), grind (arith, nat_tests))

pub single_apart : (c : ℕ) → is_single c ≡ true → (is_blank c ≡ false) × (c ≡ 47 → ⊥) × (is_name_start c ≡ false) × (is_decimal c ≡ false) × (c ≡ 34 → ⊥)
single_apart c h = (grind (arith, nat_tests), grind (arith, nat_tests), grind (arith, nat_tests), grind (arith, nat_tests), grind (arith, nat_tests))

pub pair_apart : (c d : ℕ) → is_pair c d ≡ true → (is_blank c ≡ false) × (c ≡ 47 → ⊥) × (is_name_start c ≡ false) × (is_decimal c ≡ false) × (c ≡ 34 → ⊥)
pair_apart c d h = (grind (arith, nat_tests), grind (arith, nat_tests), grind (arith, nat_tests), grind (arith, nat_tests), grind (arith, nat_tests))

pub name_start_byte : (c : ℕ) → is_name_start c ≡ true → is_name_byte c ≡ true
name_start_byte c h = grind (arith, nat_tests)

pub decimal_byte : (c : ℕ) → is_decimal c ≡ true → is_name_byte c ≡ true
decimal_byte c h = grind (arith, nat_tests)

pub digit_decimal : (c : ℕ) → is_digit 10 c ≡ true → is_decimal c ≡ true
digit_decimal c h = grind (arith, nat_tests)

pub digit_byte : (c : ℕ) → is_digit 16 c ≡ true → is_name_byte c ≡ true
digit_byte c h = grind (arith, nat_tests)
