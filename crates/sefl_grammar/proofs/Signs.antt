-- Signs that begin no longer one.
use Rattle.std.proofs.Common.{◌≡◌, ℕ, true, false, arith}
use Rattle.std.proofs.lemmas.Bool.Decides.{nat_tests}
use Rattle.sefl_lex.specs.Bytes.{is_decimal, is_pair}

pub open_brace : (e : ℕ) → is_pair 123 e ≡ false
open_brace e = grind (arith, nat_tests)

pub close_brace : (e : ℕ) → is_pair 125 e ≡ false
close_brace e = grind (arith, nat_tests)

pub open_bracket : (e : ℕ) → is_pair 91 e ≡ false
open_bracket e = grind (arith, nat_tests)

pub close_bracket : (e : ℕ) → is_pair 93 e ≡ false
close_bracket e = grind (arith, nat_tests)

pub open_parenthesis : (e : ℕ) → is_pair 40 e ≡ false
open_parenthesis e = grind (arith, nat_tests)

pub close_parenthesis : (e : ℕ) → is_pair 41 e ≡ false
close_parenthesis e = grind (arith, nat_tests)

pub semicolon : (e : ℕ) → is_pair 59 e ≡ false
semicolon e = grind (arith, nat_tests)

pub colon : (e : ℕ) → is_pair 58 e ≡ false
colon e = grind (arith, nat_tests)

pub comma : (e : ℕ) → is_pair 44 e ≡ false
comma e = grind (arith, nat_tests)

pub plus : (e : ℕ) → is_pair 43 e ≡ false
plus e = grind (arith, nat_tests)

pub dollar : (e : ℕ) → is_pair 36 e ≡ false
dollar e = grind (arith, nat_tests)

pub dot_digit : (x : ℕ) → is_decimal x ≡ true → is_pair 46 x ≡ false
dot_digit x h = grind (arith, nat_tests)

pub minus_digit : (x : ℕ) → is_decimal x ≡ true → is_pair 45 x ≡ false
minus_digit x h = grind (arith, nat_tests)
