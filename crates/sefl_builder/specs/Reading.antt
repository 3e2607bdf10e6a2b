-- Readers of words, and what a program that follows one answers.
use Rattle.std.specs.Prelude.{ℕ, zero, suc, ◌≡◌, Bool, true, false, List, [], ◌∷◌, ◌++◌, length, Option, None, Some, Result, Ok, Err, bytes_eq, if◌then◌else◌}
use Rattle.sefl_lex.specs.declared.token.TokenKind.{TokenKind}
use Rattle.sefl_lex.specs.declared.token.TokenKind.TheVariants as kind
use Rattle.sefl_grammar.specs.Word.{Word}
use Rattle.sefl_builder.specs.declared.misread.Misread.{Misread}
use Rattle.sefl_builder.specs.declared.misread.Misread.TheVariants.{Unexpected, NoMemory}

-- what is found of a value, with the words behind it
abbrev pub Found : Type 0 → Type 0
Found A = Option (A × List Word)

-- a reader takes words from the front
abbrev pub Reader : Type 0 → Type 0
Reader A = List Word → Found A

-- what is found, and then what the next reader finds
abbrev pub then' : {A B : Type 0} → Found A → (A → List Word → Found B) → Found B
then' None next = None
then' (Some r) next = next r.0 r.1

-- what is found where a thing is known
abbrev pub known : {A B : Type 0} → Option A → (A → Found B) → Found B
known None next = None
known (Some x) next = next x

abbrev pub is_name_kind : TokenKind → Bool
is_name_kind kind.Name = true
is_name_kind kind.Number = false
is_name_kind kind.Text = false
is_name_kind kind.Sign = false

abbrev pub is_number_kind : TokenKind → Bool
is_number_kind kind.Name = false
is_number_kind kind.Number = true
is_number_kind kind.Text = false
is_number_kind kind.Sign = false

abbrev pub is_text_kind : TokenKind → Bool
is_text_kind kind.Name = false
is_text_kind kind.Number = false
is_text_kind kind.Text = true
is_text_kind kind.Sign = false

-- the first word is this one
abbrev pub begins_with : List ℕ → List Word → Bool
begins_with text [] = false
begins_with text (w ∷ ws) = bytes_eq w.text text

abbrev pub begins_name : List Word → Bool
begins_name [] = false
begins_name (w ∷ ws) = is_name_kind w.kind

abbrev pub begins_number : List Word → Bool
begins_number [] = false
begins_number (w ∷ ws) = is_number_kind w.kind

-- the program found the value, or did not find it, or had no memory
abbrev pub Refuses : {B : Type 0} → Misread → Found B → Type 0
Refuses Unexpected found = found ≡ None
Refuses NoMemory found = Unit {0}

-- the program answers what is found, where the view of its value is the value that is found
abbrev pub Answers : {A B : Type 0} → (A → B) → Result A Misread → List Word → Found B → Type 0
Answers view (Ok x) left found = found ≡ Some (view x, left)
Answers view (Err fault) left found = Refuses fault found

-- Values one after another, as long as the test says that there is one more; at most this many of them.
abbrev pub many : {A : Type 0} → (List Word → Bool) → Reader A → ℕ → Reader (List A)
many goes item zero ws = Some ([], ws)
many goes item (suc most) ws =
    if goes ws then then' (item ws) (λ x ws. then' (many goes item most ws) (λ xs ws. Some (x ∷ xs, ws))) else Some ([], ws)

-- all of them: each has a word
unfoldable pub all : {A : Type 0} → (List Word → Bool) → Reader A → Reader (List A)
all goes item ws = many goes item (length ws) ws

-- what is found behind the values that are known
abbrev pub added : {A : Type 0} → List A → Found (List A) → Found (List A)
added xs found = then' found (λ ys ws. Some (xs ++ ys, ws))
