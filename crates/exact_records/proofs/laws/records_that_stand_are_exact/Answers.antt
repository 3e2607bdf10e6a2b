use Rattle.exact_records.proofs.Ending.{standing_is_exact}
use Rattle.exact_records.proofs.laws.records_that_stand_are_exact.Goals as goal

pub returns : goal.returns
returns c = λ s splits. standing_is_exact c.facts.ensures s splits
