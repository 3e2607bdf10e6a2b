use Rattle.told_texts.proofs.Walks.{walks_same}
use Rattle.told_texts.proofs.laws.walks_are_told.Goals as goal

pub returns : goal.returns
returns c = λ net. walks_same net c.lines_are_read.ensures c.places_are_found.ensures
