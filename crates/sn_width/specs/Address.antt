-- Addresses in bits.
use Rattle.std.specs.Prelude.{ℤ, pos, negsuc, int_le, Bool, ◌&&◌}

-- an address lies in -2^20 to 2^20 - 1
abbrev pub is_address : ℤ → Bool
is_address address = int_le (negsuc 1048575) address && int_le address (pos 1048575)
