-- Numbers of words.
use Rattle.std.specs.Prelude.{ℕ, ◌+◌, ◌-◌, ◌*◌, ◌&&◌, nat_le, [], ◌∷◌, length, Option, None, Some, option_and_then, if◌then◌else◌}
use Rattle.std.specs.Char.{is_ascii_digit}
use Rattle.command_words.specs.Forms.{Text}

-- what digits spell behind those of a number
abbrev pub digits_from : ℕ → Text → Option ℕ
digits_from value [] = Some value
digits_from value (c ∷ rest) = if is_ascii_digit c then digits_from (value * 10 + (c - 48)) rest else None

-- the number that 1 to 20 decimal digits spell
abbrev pub number_of : Text → Option ℕ
number_of word = if nat_le 1 (length word) && nat_le (length word) 20 then digits_from 0 word else None

abbrev pub within : ℕ → ℕ → ℕ → Option ℕ
within least most n = if nat_le least n && nat_le n most then Some n else None

-- the number, if it is in the range
abbrev pub number_in : ℕ → ℕ → Text → Option ℕ
number_in least most word = option_and_then (within least most) (number_of word)

-- the number, if it is a seed, which has 64 bits
abbrev pub seed_of : Text → Option ℕ
seed_of word = number_in 0 18446744073709551615 word

-- the number, if it is from 1 on and has 64 bits
abbrev pub count_of : Text → Option ℕ
count_of word = number_in 1 18446744073709551615 word

-- the number that is given, or the default
abbrev pub number_or : ℕ → ℕ → ℕ → Option Text → Option ℕ
number_or least most default None = Some default
number_or least most default (Some word) = number_in least most word
