-- The bytes of a job's text.
use Rattle.std.specs.Prelude.{ℕ, ◌||◌, ◌&&◌, ◌==◌, nat_le, not, List, [], ◌∷◌, Bool, false, IsTrue, ◌≡◌}
use Rattle.std.specs.List.{list_all}

-- a space, a tab, a CR or an LF
abbrev pub is_blank : ℕ → Bool
is_blank c = c == 32 || c == 9 || c == 13 || c == 10

-- a letter from A to Z or a to z, or an underscore
abbrev pub is_name_start : ℕ → Bool
is_name_start c = (nat_le 65 c && nat_le c 90) || (nat_le 97 c && nat_le c 122) || (c == 95)

abbrev pub is_decimal : ℕ → Bool
is_decimal c = nat_le 48 c && nat_le c 57

-- a letter, an underscore or a digit
abbrev pub is_name_byte : ℕ → Bool
is_name_byte c = is_name_start c || is_decimal c

-- what stands between the quotes of a text: neither a quote nor a control character of ASCII
abbrev pub is_text_byte : ℕ → Bool
is_text_byte c = nat_le 32 c && not (c == 34) && not (c == 127)

-- what stands in a line: all but LF
abbrev pub is_line_byte : ℕ → Bool
is_line_byte c = not (c == 10)

-- a sign of one byte: { } [ ] ( ) ; : , . = < > + - $
abbrev pub is_single : ℕ → Bool
is_single c =
    c == 123 || c == 125 || c == 91 || c == 93 || c == 40 || c == 41 || c == 59 || c == 58
    || c == 44 || c == 46 || c == 61 || c == 60 || c == 62 || c == 43 || c == 45 || c == 36

-- a sign of two bytes: .. == != <= >= ->
abbrev pub is_pair : ℕ → ℕ → Bool
is_pair a b =
    (a == 46 && b == 46) || (b == 61 && (a == 61 || a == 33 || a == 60 || a == 62)) || (a == 45 && b == 62)

-- the first byte is one of these
abbrev pub begins : (ℕ → Bool) → List ℕ → Bool
begins test [] = false
begins test (c ∷ _) = test c

-- the word is the longest front of such bytes: each of its bytes is one, and the first that follows is none
abbrev pub IsRun : (ℕ → Bool) → List ℕ → List ℕ → Type 0
IsRun test word rest = IsTrue (list_all test word) × (begins test rest ≡ false)
