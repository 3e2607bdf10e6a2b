-- A number is a text: its bytes are ASCII.
use Rattle.std.proofs.Common.{◌≡◌, ℕ, zero, suc, ◌^◌, ◌<◌, ◌&&◌, true, false, List, [], ◌∷◌, length, drop, refl, arith, IsUtf8}
use Rattle.std.specs.Prelude.{Bool, nat_lt}
use Rattle.std.specs.List.{list_all}
use Rattle.std.specs.Str.{IsAscii}
use Rattle.std.specs.Str.Parse.{digits_value}
use Rattle.std.proofs.lemmas.Bool.Decides.{nat_tests}
use Rattle.std.proofs.lemmas.Str.{IsUtf8-from_ascii}
use Rattle.sefl_lex.specs.Words.{is_number, are_digits, have_value, is_digit, is_hexadecimal, base_of, digits_of}

both : (a b : Bool) → a && b ≡ true → (a ≡ true) × (b ≡ true)
both true b h = (refl, h)
both false b h = absurd cc

-- by the first of its bytes, and then by the others
ascii_more : (c : ℕ) (rest : List ℕ) → c < 128 → IsAscii rest → IsAscii (c ∷ rest)
ascii_more c rest first later zero = first
ascii_more c rest first later (suc i) = later i

digit_ascii : (base c : ℕ) → base < 37 → is_digit base c ≡ true → c < 128
digit_ascii base c small digit = grind (arith, nat_tests)

digits_ascii : (base : ℕ) (digits : List ℕ) → base < 37 → list_all (is_digit base) digits ≡ true → IsAscii digits
digits_ascii base [] small all = λ _. omega arith
digits_ascii base (c ∷ digits) small all =
    let parts = both (is_digit base c) (list_all (is_digit base) digits) all in
    ascii_more c digits (digit_ascii base c small parts.0) (digits_ascii base digits small parts.1)

have_digits : (base : ℕ) (digits : List ℕ) → are_digits base digits ≡ true → list_all (is_digit base) digits ≡ true
unfolding are_digits have_value
have_digits base digits are =
    (both (list_all (is_digit base) digits) (nat_lt (digits_value base digits) (2 ^ 128)) (both (nat_lt 0 (length digits)) _ are).1).0

all_digits : (word : List ℕ) → is_number word ≡ true → list_all (is_digit (base_of word)) (digits_of word) ≡ true
unfolding is_number
all_digits word number = have_digits (base_of word) (digits_of word) number

hexadecimal_ascii : (word : List ℕ) → is_hexadecimal word ≡ true → IsAscii (drop 2 word) → IsAscii word
hexadecimal_ascii [] is later = absurd cc
hexadecimal_ascii (a ∷ []) is later = absurd cc
hexadecimal_ascii (a ∷ b ∷ rest) is later =
    ascii_more a (b ∷ rest) (grind (arith, nat_tests)) (ascii_more b rest (grind (arith, nat_tests)) later)

number_ascii_by : (word : List ℕ) (b : Bool) → is_hexadecimal word ≡ b → list_all (is_digit (base_of word)) (digits_of word) ≡ true → IsAscii word
number_ascii_by word true is all =
    let digits : list_all (is_digit 16) (drop 2 word) ≡ true = rw is at all in
    hexadecimal_ascii word is (digits_ascii 16 (drop 2 word) (omega arith) digits)
number_ascii_by word false is all =
    let digits : list_all (is_digit 10) word ≡ true = rw is at all in
    digits_ascii 10 word (omega arith) digits

not_text_by : (word : List ℕ) (b : Bool) → is_number word ≡ b → ¬ (IsUtf8 word) → is_number word ≡ false
not_text_by word true number not_text =
    absurd (not_text (IsUtf8-from_ascii word (number_ascii_by word (is_hexadecimal word) refl (all_digits word number))))
not_text_by word false number not_text = number

pub not_text : (word : List ℕ) → ¬ (IsUtf8 word) → is_number word ≡ false
not_text word none = not_text_by word (is_number word) refl none
