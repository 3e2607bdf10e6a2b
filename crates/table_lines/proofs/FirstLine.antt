-- The first line of a text.
use Rattle.std.proofs.Common.{◌≡◌, ◌∙◌, ℕ, Bool, true, false, if◌then◌else◌, ◌==◌, ◌&&◌, List, [], ◌∷◌, ◌++◌, refl, sym, ap}
use Rattle.table_lines.specs.declared.pieces.Separator.TheVariants.{LineFeed}
use Rattle.table_lines.specs.Pieces.{pieces}
use Rattle.table_lines.specs.Lines.{cut, is_nil, lines, without_return}
use Rattle.table_lines.proofs.FirstPiece.{front, behind, pieces_behind, first_piece}

some_piece : (bytes : List ℕ) → (p : List ℕ) × (ps : List (List ℕ)) × (pieces LineFeed bytes ≡ p ∷ ps)
some_piece bytes = (front LineFeed bytes, pieces_behind LineFeed (behind LineFeed bytes), first_piece LineFeed bytes)

pub line_and_more : (bytes line rest : List ℕ) → pieces LineFeed bytes ≡ line ∷ pieces LineFeed rest → lines bytes ≡ without_return line ∷ lines rest
line_and_more bytes line rest is =
    let some = some_piece rest in
    ap cut is ∙ ap (λ ps. cut (line ∷ ps)) some.2 ∙ ap (λ ps. without_return line ∷ cut ps) (sym some.2)

pub line_alone : (bytes line : List ℕ) → pieces LineFeed bytes ≡ line ∷ [] → lines bytes ≡ line ∷ []
line_alone bytes line is = ap cut is

and_false : (b : Bool) → (b && false) ≡ false
and_false true = refl
and_false false = refl

pub returned : (front : List ℕ) → without_return (front ++ 13 ∷ []) ≡ front
returned [] = refl
returned (c ∷ front) = ap (λ b. if b then [] else c ∷ without_return (front ++ 13 ∷ [])) (still c front) ∙ ap (λ xs. c ∷ xs) (returned front)
  where
    still : (c : ℕ) (front : List ℕ) → ((c == 13) && is_nil (front ++ 13 ∷ [])) ≡ false
    still c [] = and_false (c == 13)
    still c (d ∷ front) = and_false (c == 13)

pub not_returned : (front : List ℕ) (c : ℕ) → (c == 13) ≡ false → without_return (front ++ c ∷ []) ≡ front ++ c ∷ []
not_returned [] c h = ap (λ b. if b && true then [] else c ∷ []) h
not_returned (d ∷ front) c h = ap (λ b. if b then [] else d ∷ without_return (front ++ c ∷ [])) (still d front) ∙ ap (λ xs. d ∷ xs) (not_returned front c h)
  where
    still : (d : ℕ) (front : List ℕ) → ((d == 13) && is_nil (front ++ c ∷ [])) ≡ false
    still d [] = and_false (d == 13)
    still d (e ∷ front) = and_false (d == 13)
