use Rattle.std.proofs.Common.{◌≡◌, map, take}
use Rattle.sefl_builder.specs.Pieces.{piece}
use Rattle.sefl_builder.proofs.piece.pieces_of.Given as goal

abbrev pub invariant-loop-token : goal.invariant-loop-token
invariant-loop-token l = l.pieces.items ≡ map piece (take l.token-index l.tokens)
