-- Short numbers.
use Rattle.std.specs.Prelude.{ℕ, ◌+◌, ◌-◌, ◌*◌, Bool, false, not, ◌&&◌, ◌==◌, nat_le, nat_lt, if◌then◌else◌, List, [], ◌∷◌, length, Option, None, Some}
use Rattle.table_lines.specs.Lines.{is_nil}

-- the value of a digit, 16 where the byte is no hexadecimal one
abbrev pub digit_value : ℕ → ℕ
digit_value c =
    if nat_le 48 c && nat_le c 57 then c - 48
    else (if nat_le 97 c && nat_le c 102 then c - 87 else (if nat_le 65 c && nat_le c 70 then c - 55 else 16))

-- what digits spell behind those of a number
abbrev pub digits_from : ℕ → ℕ → List ℕ → Option ℕ
digits_from base value [] = Some value
digits_from base value (c ∷ rest) =
    if nat_lt (digit_value c) base then digits_from base (value * base + digit_value c) rest else None

-- one to `most` digits of a base
abbrev pub number : ℕ → ℕ → List ℕ → Option ℕ
number base most bytes = if not (is_nil bytes) && nat_le (length bytes) most then digits_from base 0 bytes else None

abbrev pub has_leading_zero : List ℕ → Bool
has_leading_zero [] = false
has_leading_zero (c ∷ []) = false
has_leading_zero (c ∷ d ∷ rest) = c == 48

-- a decimal number of one to `most` digits, with no leading zero
abbrev pub decimal : ℕ → List ℕ → Option ℕ
decimal most bytes = if has_leading_zero bytes then None else number 10 most bytes

-- of more than four digits it would be past every limit of a table
abbrev pub plain_number : List ℕ → Option ℕ
plain_number bytes = decimal 4 bytes

-- the number, if it is not past the limit
abbrev pub at_most : ℕ → Option ℕ → Option ℕ
at_most limit None = None
at_most limit (Some n) = if nat_le n limit then Some n else None
