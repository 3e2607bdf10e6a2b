-- The parts of an address, one after another.
use Rattle.std.proofs.Common.{◌≡◌, ◌∙◌, ap, subst, ℕ, suc, ◌+◌, ◌-◌, ◌*◌, ◌<◌, List, [], ◌∷◌, Option, None, Some, Bor, arith}
use Rattle.std.specs.Prelude.{IfSome, IfNone}
use Rattle.sefl_syntax.specs.declared.net.TableKind.{TableKind}
use Rattle.table_lines.specs.declared.pieces.Separator.{Separator}
use Rattle.table_lines.specs.declared.pieces.Separator.TheVariants.{Slash}
use Rattle.table_lines.specs.Pieces.{pieces}
use Rattle.table_lines.specs.Addresses.{part_of, bytes_from, if_some, prefix_of}
use Rattle.table_lines.proofs.FirstPiece.{front, first_piece}

-- what is left of the pieces, if a separator stood before it
abbrev pub pieces_left : Separator → Option (Bor (List ℕ)) → List (List ℕ)
pieces_left by None = []
pieces_left by (Some bytes) = pieces by bytes.now

pub one_piece : (sep by : Separator) (all piece : List ℕ) (behind : Option (Bor (List ℕ))) → by ≡ sep → IfNone behind (pieces by all ≡ piece ∷ [])
    → IfSome behind (λ rest. pieces by all ≡ piece ∷ pieces by rest.now) → pieces sep all ≡ piece ∷ pieces_left sep behind
one_piece sep by all piece None is none some = subst (λ s. pieces s all ≡ piece ∷ []) is none
one_piece sep by all piece (Some rest) is none some = subst (λ s. pieces s all ≡ piece ∷ pieces s rest.now) is some

module _ (kind : TableKind) (total i value : ℕ) (less : i < total) where
  one_less : total - i ≡ suc (total - (i + 1))
  one_less = omega (arith, less)

  pub none_left : bytes_from kind (total - i) value [] ≡ None
  none_left = ap (λ n. bytes_from kind n value []) one_less

  step : (piece : List ℕ) (ps : List (List ℕ)) → bytes_from kind (total - i) value (piece ∷ ps)
      ≡ if_some (part_of kind piece) (λ byte. bytes_from kind (total - (i + 1)) (value * 256 + byte) ps)
  step piece ps = ap (λ n. bytes_from kind n value (piece ∷ ps)) one_less

  pub bad_part : (all piece : List ℕ) (by : Separator) (ps : List (List ℕ)) → pieces by all ≡ piece ∷ ps → part_of kind piece ≡ None
      → bytes_from kind (total - i) value (pieces by all) ≡ None
  bad_part all piece by ps is none =
      ap (bytes_from kind (total - i) value) is ∙ step piece ps
      ∙ ap (λ p. if_some p (λ byte. bytes_from kind (total - (i + 1)) (value * 256 + byte) ps)) none

  pub good_part : (all piece : List ℕ) (by : Separator) (ps : List (List ℕ)) (byte : ℕ) → pieces by all ≡ piece ∷ ps → part_of kind piece ≡ Some byte
      → bytes_from kind (total - i) value (pieces by all) ≡ bytes_from kind (total - (i + 1)) (value * 256 + byte) ps
  good_part all piece by ps byte is some =
      ap (bytes_from kind (total - i) value) is ∙ step piece ps
      ∙ ap (λ p. if_some p (λ byte. bytes_from kind (total - (i + 1)) (value * 256 + byte) ps)) some

pub all_read : (kind : TableKind) (total i value : ℕ) → total ≡ i → bytes_from kind (total - i) value [] ≡ Some value
all_read kind total i value is = let e : total - i ≡ 0 = omega (arith, is) in ap (λ n. bytes_from kind n value []) e

pub too_many : (kind : TableKind) (total i value : ℕ) (by : Separator) (bytes : List ℕ) → total ≡ i → bytes_from kind (total - i) value (pieces by bytes) ≡ None
too_many kind total i value by bytes is =
    let e : total - i ≡ 0 = omega (arith, is) in
    ap (λ n. bytes_from kind n value (pieces by bytes)) e ∙ ap (bytes_from kind 0 value) (first_piece by bytes)

-- a prefix has one slash
pub three_pieces : (word front rest length more : List ℕ) → pieces Slash word ≡ front ∷ pieces Slash rest → pieces Slash rest ≡ length ∷ pieces Slash more
    → prefix_of (pieces Slash word) ≡ None
three_pieces word front rest length more is second =
    ap prefix_of (is ∙ ap (λ ps. front ∷ ps) (second ∙ ap (λ ps. length ∷ ps) (first_piece Slash more)))
