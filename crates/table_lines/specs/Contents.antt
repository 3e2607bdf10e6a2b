-- What a line of a table file says.
use Rattle.std.specs.Prelude.{ℕ, ◌&&◌, bytes_eq, codes, nat_le, if◌then◌else◌, List, [], ◌∷◌, Option, None, Some}
use Rattle.std.specs.List.{list_all}
use Rattle.sefl_syntax.specs.declared.net.TableKind.{TableKind}
use Rattle.table_lines.specs.declared.content.Content.{Content}
use Rattle.table_lines.specs.declared.content.Content.TheVariants.{Skipped, Bad, Ports, Row}
use Rattle.table_lines.specs.Words.{is_ascii_byte, before_comment, words}
use Rattle.table_lines.specs.Numbers.{plain_number}
use Rattle.table_lines.specs.Addresses.{key_of}

-- from 1 to 1024 ports
abbrev pub header_of : Option ℕ → Content
header_of None = Bad
header_of (Some n) = if nat_le 1 n && nat_le n 1024 then Ports n else Bad

abbrev pub row_of : Option (ℕ × ℕ) → Option ℕ → Content
row_of None port = Bad
row_of (Some key) None = Bad
row_of (Some key) (Some port) = Row key port

abbrev pub two_words : TableKind → List ℕ → List ℕ → Content
two_words kind first second =
    if bytes_eq first (codes "ports") then header_of (plain_number second) else row_of (key_of kind first) (plain_number second)

abbrev pub words_say : TableKind → List (List ℕ) → Content
words_say kind [] = Skipped
words_say kind (first ∷ []) = Bad
words_say kind (first ∷ second ∷ []) = two_words kind first second
words_say kind (first ∷ second ∷ third ∷ later) = Bad

-- a byte that is no ASCII character makes its line bad, in a comment too
abbrev pub content_of : TableKind → List ℕ → Content
content_of kind line = if list_all is_ascii_byte line then words_say kind (words (before_comment line)) else Bad
