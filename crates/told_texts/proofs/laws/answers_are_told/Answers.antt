use Rattle.told_texts.proofs.Replies.{answers_same, answers_told}
use Rattle.told_texts.proofs.laws.answers_are_told.Goals as goal

pub returns-clause-texts : goal.returns-clause-texts
returns-clause-texts c = answers_same c.lines_are_read.ensures

pub returns-clause-jobs : goal.returns-clause-jobs
returns-clause-jobs c = λ hops limit more most net other i j asks others ending last whole a b h k. answers_told c.lines_are_read.ensures whole a.replies b.replies h k a.line b.line
