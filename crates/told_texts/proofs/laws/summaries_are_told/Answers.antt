use Rattle.told_texts.proofs.Counts.{summary_same}
use Rattle.told_texts.proofs.laws.summaries_are_told.Goals as goal

pub returns : goal.returns
returns c = summary_same c.lines_are_read.ensures
