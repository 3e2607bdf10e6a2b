-- The lines of a text.
use Rattle.std.specs.Prelude.{ℕ, Bool, true, false, ◌==◌, ◌&&◌, if◌then◌else◌, List, [], ◌∷◌}
use Rattle.table_lines.specs.declared.pieces.Separator.TheVariants.{LineFeed}
use Rattle.table_lines.specs.Pieces.{pieces}

abbrev pub is_nil : List ℕ → Bool
is_nil [] = true
is_nil (c ∷ rest) = false

-- without a CR at the end
abbrev pub without_return : List ℕ → List ℕ
without_return [] = []
without_return (c ∷ rest) = if c == 13 && is_nil rest then [] else c ∷ without_return rest

-- a line feed stands behind each piece but the last, and a CR before it is no part of the line
abbrev pub cut : List (List ℕ) → List (List ℕ)
cut [] = []
cut (piece ∷ []) = piece ∷ []
cut (piece ∷ next ∷ later) = without_return piece ∷ cut (next ∷ later)

abbrev pub lines : List ℕ → List (List ℕ)
lines bytes = cut (pieces LineFeed bytes)
