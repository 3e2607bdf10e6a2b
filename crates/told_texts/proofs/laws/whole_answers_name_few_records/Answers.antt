use Rattle.told_texts.proofs.Whole.{answers_below}
use Rattle.told_texts.proofs.laws.whole_answers_name_few_records.Goals as goal

pub returns : goal.returns
returns c = answers_below
