use Rattle.told_texts.proofs.Comparisons.{compared_same, compared_whole}
use Rattle.told_texts.proofs.laws.comparisons_are_told.Goals as goal

pub returns-clause-texts : goal.returns-clause-texts
returns-clause-texts c = compared_same c.lines_are_read.ensures

pub returns-clause-whole : goal.returns-clause-whole
returns-clause-whole c = compared_whole c.lines_are_read.ensures
