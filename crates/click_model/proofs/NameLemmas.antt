-- A name is a text: its bytes are ASCII.
use Rattle.std.proofs.Common.{◌≡◌, ℕ, zero, suc, ◌<◌, ◌&&◌, Bool, true, false, List, [], ◌∷◌, length, refl, arith, IsUtf8}
use Rattle.std.specs.Prelude.{nat_le}
use Rattle.std.specs.List.{list_all}
use Rattle.std.specs.Str.{IsAscii}
use Rattle.std.proofs.lemmas.Bool.Decides.{nat_tests}
use Rattle.std.proofs.lemmas.Str.{IsUtf8-from_ascii}
use Rattle.sefl_lex.specs.Bytes.{begins, is_name_byte, is_name_start}
use Rattle.sefl_lex.specs.Words.{is_name}

both : (a b : Bool) → a && b ≡ true → (a ≡ true) × (b ≡ true)
both true b h = (refl, h)
both false b h = absurd cc

-- by the first of its bytes, and then by the others
ascii_more : (c : ℕ) (rest : List ℕ) → c < 128 → IsAscii rest → IsAscii (c ∷ rest)
ascii_more c rest first later zero = first
ascii_more c rest first later (suc i) = later i

byte_ascii : (c : ℕ) → is_name_byte c ≡ true → c < 128
byte_ascii c is = grind (arith, nat_tests)

bytes_ascii : (cs : List ℕ) → list_all is_name_byte cs ≡ true → IsAscii cs
bytes_ascii [] all = λ _. omega arith
bytes_ascii (c ∷ cs) all =
    let parts = both (is_name_byte c) (list_all is_name_byte cs) all in
    ascii_more c cs (byte_ascii c parts.0) (bytes_ascii cs parts.1)

pub name_text : (word : List ℕ) → is_name word ≡ true → IsUtf8 word
name_text word is =
    let bytes = both (begins is_name_start word) (list_all is_name_byte word)
    (both (begins is_name_start word && list_all is_name_byte word) (nat_le (length word) 64) is).0 in
    IsUtf8-from_ascii word (bytes_ascii word bytes.1)
