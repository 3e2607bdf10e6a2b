use Rattle.whole_checks.proofs.Answered.{are_whole}
use Rattle.whole_checks.proofs.laws.counted_records_are_whole.Goals as goal

pub returns : goal.returns
returns c = λ s records. are_whole s records
