-- Pieces are words as their tokens are.
use Rattle.std.proofs.Common.{◌≡◌, ℕ, List, [], ◌∷◌, map, All, refl, ap}
use Rattle.std.proofs.lemmas.List.Elements.{All-map}
use Rattle.sefl_lex.specs.declared.token.Token.{Token}
use Rattle.sefl_lex.specs.Reads.{IsTokenOf}
use Rattle.sefl_grammar.specs.Word.{Word}
use Rattle.sefl_grammar.specs.Words.{word_at, words_of}
use Rattle.sefl_builder.specs.Pieces.{IsPieceOf, piece, piece_words}

pub same_words : (text : List ℕ) (tokens : List Token) → piece_words text (map piece tokens) ≡ words_of text tokens
same_words text [] = refl
same_words text (t ∷ ts) = ap (λ (ws : List Word). word_at text t ∷ ws) (same_words text ts)

pub are_pieces : (text : List ℕ) (tokens : List Token) → All (IsTokenOf text) tokens → All (IsPieceOf text) (map piece tokens)
are_pieces text tokens lexed = All-map (IsPieceOf text) piece tokens lexed
