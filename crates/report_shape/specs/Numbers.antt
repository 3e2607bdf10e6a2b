-- Numbers past 2 ^ 64 - 1, as texts of their digits.
use Rattle.std.specs.Prelude.{ℕ, ◌^◌, ◌&&◌, List, decimal, Bool, Option, Some, None, if◌then◌else◌, nat_le, nat_lt}
use Rattle.std.specs.Str.{bytes_eq}
use Rattle.std.specs.Str.Parse.{digits_value}

-- the digits, without leading zeros, of a number from 2 ^ 64 to 2 ^ 128 - 1
abbrev pub is_large : List ℕ → Bool
is_large s = bytes_eq (decimal (digits_value 10 s)) s && (nat_le (2 ^ 64) (digits_value 10 s) && nat_lt (digits_value 10 s) (2 ^ 128))

-- the number of such a text
abbrev pub large_of : List ℕ → Option ℕ
large_of s = if is_large s then Some (digits_value 10 s) else None
