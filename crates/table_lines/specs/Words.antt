-- The words of a line.
use Rattle.std.specs.Prelude.{ℕ, Bool, not, nat_lt, List, [], ◌∷◌, filter}
use Rattle.table_lines.specs.declared.pieces.Separator.TheVariants.{Blank, NumberSign}
use Rattle.table_lines.specs.Pieces.{pieces}
use Rattle.table_lines.specs.Lines.{is_nil}

abbrev pub is_ascii_byte : ℕ → Bool
is_ascii_byte c = nat_lt c 128

abbrev pub first_piece : List (List ℕ) → List ℕ
first_piece [] = []
first_piece (piece ∷ later) = piece

-- a comment goes from its first byte to the end of the line
abbrev pub before_comment : List ℕ → List ℕ
before_comment line = first_piece (pieces NumberSign line)

abbrev pub is_word : List ℕ → Bool
is_word piece = not (is_nil piece)

-- what stands between blanks, without the empty pieces
abbrev pub words : List ℕ → List (List ℕ)
words line = filter is_word (pieces Blank line)
