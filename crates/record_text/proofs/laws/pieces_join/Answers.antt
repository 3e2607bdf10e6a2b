use Rattle.record_text.proofs.Pieces as pieces
use Rattle.record_text.proofs.laws.pieces_join.Goals as goal

pub returns : goal.returns
returns c = pieces.pieces_join
