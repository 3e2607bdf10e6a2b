use Rattle.told_texts.proofs.Counts.{confirmed_same}
use Rattle.told_texts.proofs.laws.confirmed_counts_are_told.Goals as goal

pub returns : goal.returns
returns c = confirmed_same c.lines_are_read.ensures
