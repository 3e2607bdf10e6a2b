-- The first word of a line.
use Rattle.std.proofs.Common.{◌≡◌, ap, ℕ, ◌<◌, List, [], ◌∷◌, length, filter, arith}
use Rattle.table_lines.specs.declared.pieces.Separator.TheVariants.{Blank}
use Rattle.table_lines.specs.Pieces.{pieces}
use Rattle.table_lines.specs.Words.{is_word, words}

-- an empty piece is no word
pub skipped : (bytes piece : List ℕ) (ps : List (List ℕ)) → pieces Blank bytes ≡ piece ∷ ps → length piece ≡ 0 → words bytes ≡ filter is_word ps
skipped bytes [] ps is none = ap (filter is_word) is
skipped bytes (c ∷ piece) ps is none = absurd (omega (arith, none))

-- any other is the first one
pub found : (bytes piece : List ℕ) (ps : List (List ℕ)) → pieces Blank bytes ≡ piece ∷ ps → 0 < length piece → words bytes ≡ piece ∷ filter is_word ps
found bytes [] ps is some = absurd (omega (arith, some))
found bytes (c ∷ piece) ps is some = ap (filter is_word) is
