-- The arguments of an element, which commas separate, and their words.
use Rattle.std.specs.Prelude.{ℕ, Bool, true, false, List, [], ◌∷◌, Option, None, Some}
use Rattle.sefl_syntax.specs.declared.net.TableKind.TheVariants.{Mac}
use Rattle.table_lines.specs.declared.pieces.Separator.TheVariants.{Comma}
use Rattle.table_lines.specs.Pieces.{pieces}
use Rattle.table_lines.specs.Words.{words}
use Rattle.table_lines.specs.Numbers.{at_most}
use Rattle.table_lines.specs.Addresses.{address_of}
use Rattle.click_text.specs.Numbers.{number}

abbrev pub arguments : List ℕ → List (List ℕ)
arguments text = pieces Comma text

-- one word alone
abbrev pub only : List (List ℕ) → Option (List ℕ)
only [] = None
only (word ∷ []) = Some word
only (word ∷ next ∷ later) = None

-- one argument alone, of one word
abbrev pub one : List (List ℕ) → Option (List ℕ)
one [] = None
one (argument ∷ []) = only (words argument)
one (argument ∷ next ∷ later) = None

abbrev pub has_none : List (List ℕ) → Bool
has_none [] = true
has_none (word ∷ later) = false

-- nothing but blanks
abbrev pub is_empty : List (List ℕ) → Bool
is_empty [] = true
is_empty (argument ∷ []) = has_none (words argument)
is_empty (argument ∷ next ∷ later) = false

-- a number that does not exceed the limit
abbrev pub number_to : ℕ → Option (List ℕ) → Option ℕ
number_to limit None = None
number_to limit (Some word) = at_most limit (number word)

-- the address of an Ethernet interface
abbrev pub mac_of : Option (List ℕ) → Option ℕ
mac_of None = None
mac_of (Some word) = address_of Mac word
