-- Single words.
use Rattle.std.specs.Prelude.{ℕ, ◌-◌, nat_le, ◌&&◌, List, [], ◌∷◌, length, take, drop, None, Some, bytes_eq, if◌then◌else◌}
use Rattle.sefl_lex.specs.Words.{value_of}
use Rattle.sefl_syntax.specs.Name.{is_name}
use Rattle.sefl_grammar.specs.Word.{Word}
use Rattle.sefl_builder.specs.Reading.{Found, Reader, then', is_number_kind, is_text_kind}

-- this word
unfoldable pub key : List ℕ → Reader (Unit {0})
key text [] = None
key text (w ∷ ws) = if bytes_eq w.text text then Some (tt, ws) else None

-- this word, which stands for the value
abbrev pub word : {A : Type 0} → List ℕ → A → Reader A
word text x ws = then' (key text ws) (λ _ ws. Some (x, ws))

-- any word
unfoldable pub skip : Reader (Unit {0})
skip [] = None
skip (w ∷ ws) = Some (tt, ws)

unfoldable pub name : Reader (List ℕ)
name [] = None
name (w ∷ ws) = if is_name w.text then Some (w.text, ws) else None

unfoldable pub number : Reader ℕ
number [] = None
number (w ∷ ws) = if is_number_kind w.kind then Some (value_of w.text, ws) else None

-- what stands between the first byte and the last
abbrev pub body_of : List ℕ → List ℕ
body_of text = take (length text - 2) (drop 1 text)

unfoldable pub text : Reader (List ℕ)
text [] = None
text (w ∷ ws) = if is_text_kind w.kind then Some (body_of w.text, ws) else None

abbrev pub within : ℕ → ℕ → ℕ → List Word → Found ℕ
within least most n ws = if nat_le least n && nat_le n most then Some (n, ws) else None

-- a number in bounds
unfoldable pub number_in : ℕ → ℕ → Reader ℕ
number_in least most ws = then' (number ws) (within least most)

abbrev pub port : Reader ℕ
port ws = number_in 0 4294967295 ws

abbrev pub offset : Reader ℕ
offset ws = number_in 0 1048576 ws

abbrev pub width : Reader ℕ
width ws = number_in 1 128 ws
