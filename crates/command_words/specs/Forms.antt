-- Forms of words, and their readings.
use Rattle.std.specs.Prelude.{ℕ, Bool, List, [], ◌∷◌, ◌++◌, ◌==◌, ◌+◌, ◌&&◌, ◌||◌, not, false, Option, Some, None, slice_get, find, option_map, if◌then◌else◌}
use Rattle.std.specs.List.{after_first, before_first, list_any, list_all}
use Rattle.std.specs.Str.{bytes_eq}

abbrev pub Text : Type 0
Text = List ℕ

-- the names of the positionals, and of the options; each option has a value
pub record Form : Type 0 where
  pub positionals : List Text
  pub options : List Text

-- names with their values, in the order of the words
abbrev pub Given : Type 0
Given = List (Text × Text)

abbrev pub has_name : Text → Given → Bool
has_name name given = list_any (λ p. bytes_eq p.0 name) given

-- the value of a name
abbrev pub value_of : Given → Text → Option Text
value_of given name = option_map (λ p. p.1) (find (λ p. bytes_eq p.0 name) given)

abbrev pub is_option : Form → Text → Bool
is_option f name = list_any (λ o. bytes_eq o name) f.options

abbrev pub begins_with_dash : Text → Bool
begins_with_dash [] = false
begins_with_dash (b ∷ bs) = b == 45

-- `--`
abbrev pub is_dashes : Text → Bool
is_dashes word = bytes_eq word (45 ∷ 45 ∷ [])

-- what stands before the first `=`, and what stands behind it, where there is one
abbrev pub cut_at_equals : Text → Text × Option Text
cut_at_equals word = (
  before_first (λ b. b == 61) word,
  if list_any (λ b. b == 61) word then Some (after_first (λ b. b == 61) word) else None,
)

-- the name of `--name`, or the name and the value of `--name=value`
abbrev pub option_of : Text → Option (Text × Option Text)
option_of [] = None
option_of (a ∷ []) = None
option_of (a ∷ b ∷ []) = None
option_of (a ∷ b ∷ c ∷ rest) = if a == 45 && b == 45 then Some (cut_at_equals (c ∷ rest)) else None

-- a name gets its value, at most once
abbrev pub add : Text → Text → Given → (Given → Option Given) → Option Given
add name v given next = if has_name name given then None else next (given ++ (name, v) ∷ [])

-- each positional has its word
abbrev pub ends : Form → Given → Option Given
ends f given = if list_all (λ name. has_name name given) f.positionals then Some given else None

-- the word of a positional
abbrev pub place_word : Option Text → Text → Given → (Given → Option Given) → Option Given
place_word None w given next = None
place_word (Some name) w given next = add name w given next

-- an option with its value, or one that waits for it
abbrev pub option_value : Text → Option Text → Given → (Option Text → Given → Option Given) → Option Given
option_value name (Some v) given next = add name v given (next None)
option_value name None given next = next (Some name) given

abbrev pub option_word : Form → Option (Text × Option Text) → Given → (Option Text → Given → Option Given) → Option Given
option_word f None given next = None
option_word f (Some p) given next = if is_option f p.0 then option_value p.0 p.1 given next else None

-- the words behind `--`: positionals from this place on
abbrev pub read_places : Form → ℕ → Given → List Text → Option Given
read_places f at given [] = ends f given
read_places f at given (w ∷ ws) = place_word (slice_get f.positionals at) w given (λ g. read_places f (at + 1) g ws)

-- the words, where an option may wait for its value
abbrev pub read_words : Form → Option Text → ℕ → Given → List Text → Option Given
read_words f None at given [] = ends f given
read_words f (Some name) at given [] = None
read_words f None at given (w ∷ ws) =
    if is_dashes w then read_places f at given ws
    else if begins_with_dash w then option_word f (option_of w) given (λ waits g. read_words f waits at g ws)
    else place_word (slice_get f.positionals at) w given (λ g. read_words f None (at + 1) g ws)
read_words f (Some name) at given (w ∷ ws) =
    if begins_with_dash w then None else add name w given (λ g. read_words f None at g ws)

-- what the words give by name; None where they have no reading in this form
abbrev pub read_form : Form → List Text → Option Given
read_form f words = read_words f None 0 [] words

-- a word that begins with one dash
abbrev pub is_single_dash : Text → Bool
is_single_dash [] = false
is_single_dash (a ∷ []) = a == 45
is_single_dash (a ∷ b ∷ rest) = a == 45 && not (b == 45)

-- one before any `--`
abbrev pub has_single_dash : List Text → Bool
has_single_dash [] = false
has_single_dash (w ∷ ws) = if is_dashes w then false else is_single_dash w || has_single_dash ws
