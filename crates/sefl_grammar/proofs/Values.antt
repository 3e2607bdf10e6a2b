-- The values of decimal digits.
use Rattle.std.proofs.Common.{◌≡◌, ℕ, ◌+◌, ◌*◌, ◌<◌, true, false, List, [], ◌∷◌, length, take, get_or, refl, rules, tests}
use Rattle.std.specs.List.{list_all}
use Rattle.std.specs.Char.{digit_value}
use Rattle.std.specs.Str.Parse.{digits_value}
use Rattle.std.proofs.lemmas.List.{take_more}
use Rattle.std.proofs.lemmas.List.Recursion.{and_push}
use Rattle.std.proofs.lemmas.Int.Digits.{digits_value_more}
use Rattle.sefl_lex.specs.Bytes.{is_decimal}
use Rattle.sefl_lex.specs.Words.{is_hexadecimal, value_of}

pub more_digits : (i : ℕ) (word : List ℕ) → i < length word → is_decimal (get_or word i 0) ≡ true → list_all is_decimal (take i word) ≡ true
    → list_all is_decimal (take (i + 1) word) ≡ true
more_digits i word lt is all = rw (take_more word i 0 lt, and_push (list_all is_decimal) is_decimal refl (λ _ _. refl), all) is

pub more_value : (i value digit : ℕ) (word : List ℕ) → i < length word → value ≡ digits_value 10 (take i word) → digit ≡ digit_value (get_or word i 0)
    → value * 10 + digit ≡ digits_value 10 (take (i + 1) word)
more_value i value digit word lt value_is digit_is = rw (digits_value_more 10 word i lt, ← value_is, ← digit_is)

-- no second byte is an `x`
pub is_base_ten : (word : List ℕ) → list_all is_decimal word ≡ true → is_hexadecimal word ≡ false
is_base_ten [] all = refl
is_base_ten (a ∷ []) all = refl
is_base_ten (a ∷ b ∷ rest) all = search (rules, tests)

pub is_value : (word : List ℕ) → list_all is_decimal word ≡ true → digits_value 10 word ≡ value_of word
unfolding value_of
is_value word all = rw (is_base_ten word all) refl
