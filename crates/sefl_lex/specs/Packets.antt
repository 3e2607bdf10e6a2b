-- The numbers of a packet's file.
use Rattle.std.specs.Prelude.{ℕ, Bool, not, List, [], ◌∷◌, Option, Some, None, option_map, if◌then◌else◌}
use Rattle.sefl_lex.specs.Bytes.{is_blank, begins}
use Rattle.sefl_lex.specs.Words.{is_number, value_of}

-- what stands in a word: all but blanks
abbrev pub is_word_byte : ℕ → Bool
is_word_byte c = not (is_blank c)

-- the first of the words, with one byte more at its front
abbrev pub with_first : ℕ → List (List ℕ) → List (List ℕ)
with_first c [] = (c ∷ []) ∷ []
with_first c (word ∷ words) = (c ∷ word) ∷ words

-- the words between the blanks, in order: a byte that a blank or nothing follows is the last one of its word
abbrev pub words : List ℕ → List (List ℕ)
words [] = []
words (c ∷ rest) =
    if is_blank c then words rest
    else (if begins is_word_byte rest then with_first c (words rest) else (c ∷ []) ∷ words rest)

-- the values of the words, if each is a number
abbrev pub numbers_of : List (List ℕ) → Option (List ℕ)
numbers_of [] = Some []
numbers_of (word ∷ later) = if is_number word then option_map (λ values. value_of word ∷ values) (numbers_of later) else None

-- the packet that the bytes spell, if there is one
abbrev pub packet_of : List ℕ → Option (List ℕ)
packet_of bytes = numbers_of (words bytes)
