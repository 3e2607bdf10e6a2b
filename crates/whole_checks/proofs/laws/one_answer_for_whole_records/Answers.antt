use Rattle.whole_checks.proofs.Answered.{one_answer}
use Rattle.whole_checks.proofs.laws.one_answer_for_whole_records.Goals as goal

pub returns : goal.returns
returns c = λ s records. one_answer s (c.parts_make_the_meaning.ensures s) records
