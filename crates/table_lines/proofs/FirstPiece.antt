-- The first piece between separators.
use Rattle.std.proofs.Common.{◌≡◌, ◌∙◌, ℕ, suc, Bool, true, false, if◌then◌else◌, List, [], ◌∷◌, take, drop, refl, sym, ap, arith}
use Rattle.std.specs.List.{prefix_len}
use Rattle.table_lines.specs.declared.pieces.Separator.{Separator}
use Rattle.table_lines.specs.Pieces.{is_piece_byte, pieces, with_first}

module _ (by : Separator) where
  run_more : (c : ℕ) (rest : List ℕ) → is_piece_byte by c ≡ true → prefix_len (is_piece_byte by) (c ∷ rest) ≡ suc (prefix_len (is_piece_byte by) rest)
  run_more c rest passes = rw passes (omega arith)

  run_none : (c : ℕ) (rest : List ℕ) → is_piece_byte by c ≡ false → prefix_len (is_piece_byte by) (c ∷ rest) ≡ 0
  run_none c rest fails = rw fails refl

  abbrev pub front : List ℕ → List ℕ
  front bytes = take (prefix_len (is_piece_byte by) bytes) bytes

  abbrev pub behind : List ℕ → List ℕ
  behind bytes = drop (prefix_len (is_piece_byte by) bytes) bytes

  -- the pieces of what stands behind the first one, if a separator does
  abbrev pub pieces_behind : List ℕ → List (List ℕ)
  pieces_behind [] = []
  pieces_behind (c ∷ rest) = pieces by rest

  pub first_piece : (bytes : List ℕ) → pieces by bytes ≡ front bytes ∷ pieces_behind (behind bytes)
  first_piece [] = refl
  first_piece (c ∷ rest) = case (is_piece_byte by c) refl (first_piece rest)
    where
      case : (b : Bool) → is_piece_byte by c ≡ b → pieces by rest ≡ front rest ∷ pieces_behind (behind rest)
          → (if b then with_first c (pieces by rest) else [] ∷ pieces by rest) ≡ front (c ∷ rest) ∷ pieces_behind (behind (c ∷ rest))
      case true is same =
          ap (with_first c) same ∙ (λ i. take (sym (run_more c rest is) i) (c ∷ rest) ∷ pieces_behind (drop (sym (run_more c rest is) i) (c ∷ rest)))
      case false is same = λ i. take (sym (run_none c rest is) i) (c ∷ rest) ∷ pieces_behind (drop (sym (run_none c rest is) i) (c ∷ rest))
