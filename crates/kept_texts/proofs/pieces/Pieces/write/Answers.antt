use Rattle.kept_texts.proofs.RecordLemmas.{alone}
use Rattle.kept_texts.proofs.pieces.Pieces.write.Goals as goal

pub returns : goal.returns
returns g c = alone _ _ _ _ _ c.clear.ensures.bytes c.in_ok-put_comma.ensures c.in_ok-put_record.ensures
