-- Pieces, and the words of the tokens that they are of.
use Rattle.std.specs.Prelude.{ℕ, List, map, All}
use Rattle.sefl_lex.specs.declared.token.Token.{Token}
use Rattle.sefl_lex.specs.Reads.{IsTokenOf}
use Rattle.sefl_grammar.specs.Word.{Word}
use Rattle.sefl_grammar.specs.Words.{word_at}
use Rattle.sefl_builder.specs.declared.piece.Piece.{Piece}

abbrev pub piece : Token → Piece
piece t = record { kind = t.kind; start = t.start; end = t.end }

abbrev pub token : Piece → Token
token p = record { kind = p.kind; start = p.start; end = p.end }

abbrev pub piece_word : List ℕ → Piece → Word
piece_word text p = word_at text (token p)

-- the words of the pieces of a text
abbrev pub piece_words : List ℕ → List Piece → List Word
piece_words text pieces = map (piece_word text) pieces

abbrev pub IsPieceOf : List ℕ → Piece → Type 0
IsPieceOf text p = IsTokenOf text (token p)

abbrev pub ArePiecesOf : List ℕ → List Piece → Type 0
ArePiecesOf text pieces = All (IsPieceOf text) pieces
