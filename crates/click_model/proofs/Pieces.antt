-- Arguments that there are too many of.
use Rattle.std.proofs.Common.{◌≡◌, ◌∙◌, refl, ap, ℕ, Bool, true, false, if◌then◌else◌, List, [], ◌∷◌, None}
use Rattle.table_lines.specs.declared.pieces.Separator.{Separator}
use Rattle.table_lines.specs.declared.pieces.Separator.TheVariants.{Comma}
use Rattle.table_lines.specs.Pieces.{is_piece_byte, with_first, pieces}
use Rattle.click_model.specs.Arguments.{arguments, one, is_empty}
use Rattle.click_model.specs.Classes.{encap_of}

-- there is one piece at least
pub record Some1 (ps : List (List ℕ)) : Type 0 where
  pub first : List ℕ
  pub more : List (List ℕ)
  pub is : ps ≡ first ∷ more

longer : (c : ℕ) (ps : List (List ℕ)) → Some1 (with_first c ps)
longer c [] = record { first = c ∷ []; more = []; is = refl }
longer c (p ∷ ps) = record { first = c ∷ p; more = ps; is = refl }

either : (b : Bool) (ps qs : List (List ℕ)) → Some1 ps → Some1 qs → Some1 (if b then ps else qs)
either true ps qs p q = p
either false ps qs p q = q

some_piece : (sep : Separator) (bytes : List ℕ) → Some1 (pieces sep bytes)
some_piece sep [] = record { first = []; more = []; is = refl }
some_piece sep (c ∷ rest) =
    either (is_piece_byte sep c) (with_first c (pieces sep rest)) ([] ∷ pieces sep rest) (longer c (pieces sep rest))
    (record { first = []; more = pieces sep rest; is = refl })

pub not_one : (text argument rest : List ℕ) → pieces Comma text ≡ argument ∷ pieces Comma rest → one (arguments text) ≡ None
not_one text argument rest is = ap one (is ∙ ap (λ ps. argument ∷ ps) (some_piece Comma rest).is)

pub not_empty : (text argument rest : List ℕ) → pieces Comma text ≡ argument ∷ pieces Comma rest → is_empty (arguments text) ≡ false
not_empty text argument rest is = ap is_empty (is ∙ ap (λ ps. argument ∷ ps) (some_piece Comma rest).is)

pub too_many : (text kind rest source more destination last : List ℕ) → pieces Comma text ≡ kind ∷ pieces Comma rest
    → pieces Comma rest ≡ source ∷ pieces Comma more → pieces Comma more ≡ destination ∷ pieces Comma last
    → encap_of (arguments text) ≡ None
too_many text kind rest source more destination last one two three =
    ap encap_of (one ∙ ap (λ ps. kind ∷ ps) (two ∙ ap (λ ps. source ∷ ps) (three ∙ ap (λ ps. destination ∷ ps) (some_piece Comma last).is)))
