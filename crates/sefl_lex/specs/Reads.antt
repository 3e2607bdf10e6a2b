-- What a job's text is read as: its tokens, or its first fault.
use Rattle.std.specs.Prelude.{ℕ, ◌+◌, List, [], ◌∷◌, ◌++◌, length, IsTrue, ◌≡◌, ◌⊎◌, Result, Ok, Err, slice_range, ◌<◌, ◌≤◌}
use Rattle.sefl_lex.specs.declared.token.TokenKind.{TokenKind}
use Rattle.sefl_lex.specs.declared.token.Token.{Token}
use Rattle.sefl_lex.specs.declared.fault.LexFault.{LexFault}
use Rattle.sefl_lex.specs.declared.fault.LexFault.TheVariants.{BadCharacter, BadNumber, OpenText, NoMemory}
use Rattle.sefl_lex.specs.Words.{IsToken, IsWord, IsComment, is_blank_word, IsStray, IsLongName, IsNoNumber, IsNoText}

-- what stands between tokens
abbrev pub IsGap : List ℕ → List ℕ → Type 0
IsGap word rest = IsTrue (is_blank_word word) ⊎ IsComment word rest

-- the bytes, which begin at the place, begin with the fault
abbrev pub IsFault : ℕ → List ℕ → LexFault → Type 0
IsFault at bytes (BadCharacter place) =
    ((place ≡ at) × IsStray bytes) ⊎ ((place ≡ at + 64) × IsLongName bytes)
IsFault at bytes (BadNumber place) = (place ≡ at) × IsNoNumber bytes
IsFault at bytes (OpenText place) = (place ≡ at) × IsNoText bytes
IsFault at bytes NoMemory = ⊥

-- the token of a word that begins at a place
abbrev pub token_at : TokenKind → ℕ → List ℕ → Token
token_at kind at word = record { kind = kind; start = at; end = at + length word }

-- one token before the others, or the fault
abbrev pub before : Token → Result (List Token) LexFault → Result (List Token) LexFault
before first (Ok tokens) = Ok (first ∷ tokens)
before first (Err found) = Err found

-- the bytes, which begin at the place, are read as the answer: a blank or a comment as nothing, a
-- token as itself, and nothing past the first fault
pub data Reads : ℕ → List ℕ → Result (List Token) LexFault → Type 0 where
  none : {at : ℕ} → Reads at [] (Ok [])
  gap : {at : ℕ} {answer : Result (List Token) LexFault} (word rest bytes : List ℕ) → bytes ≡ word ++ rest → IsGap word rest → Reads (at + length word) rest answer → Reads at bytes answer
  token : {at : ℕ} {answer : Result (List Token) LexFault} (kind : TokenKind) (word rest bytes : List ℕ) → bytes ≡ word ++ rest → IsToken kind word rest → Reads (at + length word) rest answer → Reads at bytes (before (token_at kind at word) answer)
  fault : {at : ℕ} (bytes : List ℕ) (found : LexFault) → IsFault at bytes found → Reads at bytes (Err found)

-- the text is read as the answer
abbrev pub IsReadAs : List ℕ → Result (List Token) LexFault → Type 0
IsReadAs text answer = Reads 0 text answer

-- the bytes of a token of the text
abbrev pub word_of : List ℕ → Token → List ℕ
word_of text t = slice_range text t.start t.end

-- the token's bytes lie in the text and are a word of its kind
pub record IsTokenOf (text : List ℕ) (t : Token) : Type 0 where
  pub not_empty : t.start < t.end
  pub within : t.end ≤ length text
  pub word : IsWord t.kind (word_of text t)
