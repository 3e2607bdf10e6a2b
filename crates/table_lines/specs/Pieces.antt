-- What stands between separators.
use Rattle.std.specs.Prelude.{ℕ, Bool, not, ◌==◌, ◌||◌, if◌then◌else◌, List, [], ◌∷◌}
use Rattle.table_lines.specs.declared.pieces.Separator.{Separator}
use Rattle.table_lines.specs.declared.pieces.Separator.TheVariants.{LineFeed, Blank, NumberSign, Colon, Comma, Dot, Slash}

abbrev pub separates : Separator → ℕ → Bool
separates LineFeed c = c == 10
separates Blank c = c == 32 || c == 9
separates NumberSign c = c == 35
separates Colon c = c == 58
separates Comma c = c == 44
separates Dot c = c == 46
separates Slash c = c == 47

abbrev pub is_piece_byte : Separator → ℕ → Bool
is_piece_byte separator c = not (separates separator c)

-- the first of the pieces, with one byte more at its front
abbrev pub with_first : ℕ → List (List ℕ) → List (List ℕ)
with_first c [] = (c ∷ []) ∷ []
with_first c (piece ∷ pieces) = (c ∷ piece) ∷ pieces

-- the pieces before, between and behind the separators, one more than there are separators
abbrev pub pieces : Separator → List ℕ → List (List ℕ)
pieces separator [] = [] ∷ []
pieces separator (c ∷ rest) =
    if is_piece_byte separator c then with_first c (pieces separator rest) else [] ∷ pieces separator rest
