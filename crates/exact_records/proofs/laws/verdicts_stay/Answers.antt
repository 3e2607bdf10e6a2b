use Rattle.exact_records.proofs.Judging.{before_written, known_next, known_written}
use Rattle.exact_records.proofs.laws.verdicts_stay.Goals as goal

pub returns : goal.returns
returns c = λ s. record { next = known_next s; written = known_written c.facts.ensures; before = before_written s c.facts.ensures }
