use Rattle.told_texts.proofs.Whole.{counts_low}
use Rattle.told_texts.proofs.laws.whole_summaries_have_low_counts.Goals as goal

pub returns : goal.returns
returns c = counts_low
