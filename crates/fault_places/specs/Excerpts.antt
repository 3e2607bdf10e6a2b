-- What is shown of a place in a file.
use Rattle.std.specs.Prelude.{ℕ, ◌-◌, ◌==◌, ◌&&◌, Bool, true, false, nat_lt, nat_le, if◌then◌else◌, List, [], ◌∷◌, ◌++◌, length, map, take, drop, replicate, codes, decimal, Option, None, Some}
use Rattle.sefl_lex.specs.Bytes.{is_blank}
use Rattle.fault_places.specs.Lines.{line_of}
use Rattle.fault_places.specs.declared.excerpt.TheConstants.{MOST_BEFORE, MOST_SHOWN}

-- a byte as it is shown: a blank as a space, and what is no printable ASCII as a question mark
abbrev pub shown_byte : ℕ → ℕ
shown_byte c = if is_blank c then 32 else if nat_le 32 c && nat_lt c 127 then c else 63

-- two points where something is left out
abbrev pub points : Bool → List ℕ
points true = 46 ∷ 46 ∷ []
points false = []

-- how wide they are
abbrev pub points_width : Bool → ℕ
points_width true = 2
points_width false = 0

-- the first byte of a line that is shown, where there is to be seen the byte at a place
abbrev pub first_shown : ℕ → ℕ
first_shown at = at - MOST_BEFORE

abbrev pub window : List ℕ → ℕ → List ℕ
window line first = take MOST_SHOWN (drop first line)

-- the part of the line round the place, and a line feed
unfoldable pub shown_line : List ℕ → ℕ → List ℕ
shown_line line at =
    points (nat_lt 0 (first_shown at)) ++ (map shown_byte (window line (first_shown at))
    ++ (points (nat_lt MOST_SHOWN (length line - first_shown at)) ++ 10 ∷ []))

-- a caret below the place
unfoldable pub caret_below : ℕ → List ℕ
caret_below at =
    replicate (points_width (nat_lt 0 (first_shown at))) 32 ++ (replicate (at - first_shown at) 32 ++ 94 ∷ [])

-- the line and the column
unfoldable pub place_text : ℕ → ℕ → List ℕ
place_text line column = codes ":" ++ (decimal line ++ (codes ":" ++ (decimal column ++ codes ":\n")))

-- the place of a column, from 1, in the line; its end is one too
abbrev pub place_in : List ℕ → ℕ → Option ℕ
place_in line column =
    if column == 0 then None
    else if nat_lt (length line) (column - 1) then None
    else Some (column - 1)

abbrev pub text_at : List ℕ → ℕ → ℕ → List ℕ → Option ℕ → Option (List ℕ)
text_at name number column line None = None
text_at name number column line (Some at) =
    Some (((map shown_byte name ++ place_text number column) ++ shown_line line at) ++ caret_below at)

abbrev pub text_in : List ℕ → ℕ → ℕ → Option (List ℕ) → Option (List ℕ)
text_in name number column None = None
text_in name number column (Some line) = text_at name number column line (place_in line column)

-- the name, the line and the column; the line; and the caret; None where the file has no such place
abbrev pub fault_text : List ℕ → List ℕ → ℕ → ℕ → Option (List ℕ)
fault_text name bytes number column = text_in name number column (line_of number bytes)
