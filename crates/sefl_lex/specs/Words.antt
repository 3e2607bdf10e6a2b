-- The words of a job's text: names, numbers, texts and signs; and its comments.
use Rattle.std.specs.Prelude.{ℕ, ◌^◌, ◌||◌, ◌&&◌, ◌==◌, nat_le, nat_lt, List, [], ◌∷◌, ◌++◌, length, drop, Bool, false, IsTrue, ◌≡◌, if◌then◌else◌}
use Rattle.std.specs.List.{list_all}
use Rattle.std.specs.Char.{digit_value}
use Rattle.std.specs.Str.Parse.{digits_value}
use Rattle.sefl_lex.specs.declared.token.TokenKind.{TokenKind}
use Rattle.sefl_lex.specs.declared.token.TokenKind.TheVariants.{Name, Number, Text, Sign}
use Rattle.sefl_lex.specs.Bytes.{is_blank, is_name_start, is_decimal, is_name_byte, is_text_byte, is_line_byte, is_single, is_pair, begins, IsRun}

-- a name has 1 to 64 bytes: a letter or an underscore, then letters, digits and underscores
abbrev pub is_name : List ℕ → Bool
is_name word = begins is_name_start word && list_all is_name_byte word && nat_le (length word) 64

-- a number that begins with 0x has the base 16
abbrev pub is_hexadecimal : List ℕ → Bool
is_hexadecimal [] = false
is_hexadecimal (_ ∷ []) = false
is_hexadecimal (a ∷ b ∷ _) = a == 48 && b == 120

abbrev pub base_of : List ℕ → ℕ
base_of word = if is_hexadecimal word then 16 else 10

abbrev pub digits_of : List ℕ → List ℕ
digits_of word = if is_hexadecimal word then drop 2 word else word

-- a digit of the base, of either case
abbrev pub is_digit : ℕ → ℕ → Bool
is_digit base c = nat_lt (digit_value c) base

-- each is a digit of the base, and their number is at most 2 ^ 128 - 1
unfoldable pub have_value : ℕ → List ℕ → Bool
have_value base digits = list_all (is_digit base) digits && nat_lt (digits_value base digits) (2 ^ 128)

-- there is one at least, too
unfoldable pub are_digits : ℕ → List ℕ → Bool
are_digits base digits = nat_lt 0 (length digits) && have_value base digits

-- the number that the word spells
unfoldable pub value_of : List ℕ → ℕ
value_of word = digits_value (base_of word) (digits_of word)

-- a number has one digit at least, digits of its base alone, and is at most 2 ^ 128 - 1
unfoldable pub is_number : List ℕ → Bool
is_number word = are_digits (base_of word) (digits_of word)

-- a text is a quote, bytes other than quotes and control characters, and a quote
abbrev pub IsText : List ℕ → Type 0
IsText word = (body : List ℕ) × IsTrue (list_all is_text_byte body) × (word ≡ 34 ∷ (body ++ 34 ∷ []))

abbrev pub is_sign : List ℕ → Bool
is_sign [] = false
is_sign (a ∷ []) = is_single a
is_sign (a ∷ b ∷ []) = is_pair a b
is_sign (_ ∷ _ ∷ _ ∷ _) = false

-- the word is of the kind
abbrev pub IsWord : TokenKind → List ℕ → Type 0
IsWord Name word = IsTrue (is_name word)
IsWord Number word = IsTrue (is_number word)
IsWord Text word = IsText word
IsWord Sign word = IsTrue (is_sign word)

-- what follows a word of the kind goes on with none: no letter, digit or underscore follows a name
-- or a number, and no longer sign begins where a sign does
abbrev pub IsLongest : TokenKind → List ℕ → List ℕ → Type 0
IsLongest Name word rest = begins is_name_byte rest ≡ false
IsLongest Number word rest = begins is_name_byte rest ≡ false
IsLongest Text word rest = Unit {0}
IsLongest Sign word rest = (more later : List ℕ) → rest ≡ more ++ later → IsTrue (is_sign (word ++ more)) → more ≡ []

-- the word stands as a token of the kind before the rest
abbrev pub IsToken : TokenKind → List ℕ → List ℕ → Type 0
IsToken kind word rest = IsWord kind word × IsLongest kind word rest

abbrev pub begins_comment : List ℕ → Bool
begins_comment [] = false
begins_comment (_ ∷ []) = false
begins_comment (a ∷ b ∷ _) = a == 47 && b == 47

-- a comment is two slashes and all that follows them in their line
abbrev pub IsComment : List ℕ → List ℕ → Type 0
IsComment word rest = IsTrue (begins_comment word) × IsRun is_line_byte word rest

-- a blank
abbrev pub is_blank_word : List ℕ → Bool
is_blank_word [] = false
is_blank_word (c ∷ []) = is_blank c
is_blank_word (_ ∷ _ ∷ _) = false

abbrev pub begins_sign : List ℕ → Bool
begins_sign [] = false
begins_sign (a ∷ rest) = is_single a || begins (is_pair a) rest

-- the first byte begins no blank, comment, name, number, text or sign
abbrev pub IsStray : List ℕ → Type 0
IsStray [] = ⊥
IsStray (c ∷ rest) =
    (is_blank c ≡ false) × (begins_comment (c ∷ rest) ≡ false) × (is_name_start c ≡ false)
    × (is_decimal c ≡ false) × ((c == 34) ≡ false) × (begins_sign (c ∷ rest) ≡ false)

-- a name of 64 bytes goes on
abbrev pub IsLongName : List ℕ → Type 0
IsLongName bytes =
    (word rest : List ℕ) × (bytes ≡ word ++ rest) × IsTrue (is_name word) × (length word ≡ 64)
    × IsTrue (begins is_name_byte rest)

-- a digit begins the bytes, and no number does
abbrev pub IsNoNumber : List ℕ → Type 0
IsNoNumber bytes =
    IsTrue (begins is_decimal bytes)
    × ((word rest : List ℕ) → bytes ≡ word ++ rest → IsToken Number word rest → ⊥)

-- a quote begins the bytes, and no text does
abbrev pub IsNoText : List ℕ → Type 0
IsNoText bytes =
    IsTrue (begins (λ c. c == 34) bytes)
    × ((word rest : List ℕ) → bytes ≡ word ++ rest → IsText word → ⊥)
