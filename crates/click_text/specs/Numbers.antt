-- Numbers of at most 32 bits.
use Rattle.std.specs.Prelude.{ℕ, ◌+◌, ◌*◌, ◌&&◌, nat_lt, if◌then◌else◌, List, [], ◌∷◌, drop, Option, None, Some}
use Rattle.std.specs.Char.{digit_value}
use Rattle.sefl_lex.specs.Words.{is_hexadecimal, is_digit}

-- the number that digits spell behind those of a value
abbrev pub digits_from : ℕ → ℕ → List ℕ → Option ℕ
digits_from base value [] = Some value
digits_from base value (c ∷ rest) =
    if is_digit base c && nat_lt (value * base + digit_value c) 4294967296 then digits_from base (value * base + digit_value c) rest
    else None

-- there is one digit at least
abbrev pub digits_number : ℕ → List ℕ → Option ℕ
digits_number base [] = None
digits_number base (c ∷ rest) = digits_from base 0 (c ∷ rest)

-- decimal digits, or 0x and hexadecimal ones
abbrev pub number : List ℕ → Option ℕ
number word = if is_hexadecimal word then digits_number 16 (drop 2 word) else digits_number 10 word
