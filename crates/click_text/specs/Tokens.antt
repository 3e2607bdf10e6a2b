-- The tokens of a configuration's text, each with the line that it begins in.
use Rattle.std.specs.Prelude.{ℕ, zero, suc, ◌+◌, List, [], ◌∷◌, take, drop, length, Option, None, Some}
use Rattle.click_text.specs.declared.token.TokenKind.{TokenKind}
use Rattle.click_text.specs.declared.token.TokenKind.TheVariants.{End}
use Rattle.click_text.specs.declared.token.Token.{Token}
use Rattle.click_text.specs.Comments.{line_behind}
use Rattle.click_text.specs.Fronts.{front_of}

pub record TokenSeen : Type 0 where
  pub kind : TokenKind
  pub line : ℕ
  pub word : List ℕ

abbrev pub seen : Token → TokenSeen
seen t = record { kind = t.kind; line = t.line; word = t.word.now }

-- a token before the others; a blank or a comment is none
abbrev pub with_token : Option TokenKind → ℕ → List ℕ → List TokenSeen → List TokenSeen
with_token None line word tokens = tokens
with_token (Some kind) line word tokens = record { kind = kind; line = line; word = word } ∷ tokens

-- the tokens of at most this many bytes, which begin in the line; the last token is the end of the text
abbrev pub tokens_in : ℕ → ℕ → List ℕ → List TokenSeen
tokens_in zero line bytes = record { kind = End; line = line; word = [] } ∷ []
tokens_in (suc n) line [] = record { kind = End; line = line; word = [] } ∷ []
tokens_in (suc n) line (c ∷ rest) =
    let front = front_of c rest in
    let word = take (front.more + 1) (c ∷ rest) in
    with_token front.token line word (tokens_in n (line_behind line word) (drop (front.more + 1) (c ∷ rest)))

-- of all bytes, which begin in the line
abbrev pub tokens_from : ℕ → List ℕ → List TokenSeen
tokens_from line bytes = tokens_in (length bytes) line bytes

abbrev pub tokens_of : List ℕ → List TokenSeen
tokens_of bytes = tokens_from 1 bytes
