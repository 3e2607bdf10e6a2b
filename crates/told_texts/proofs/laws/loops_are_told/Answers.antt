use Rattle.told_texts.proofs.Found.{loops_same}
use Rattle.told_texts.proofs.laws.loops_are_told.Goals as goal

pub returns : goal.returns
returns c = loops_same c.lines_are_read.ensures
