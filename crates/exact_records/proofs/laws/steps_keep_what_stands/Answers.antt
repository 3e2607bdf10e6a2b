use Rattle.exact_records.proofs.Standing.{steps_stand}
use Rattle.exact_records.proofs.laws.steps_keep_what_stands.Goals as goal

pub returns : goal.returns
returns c = λ s. steps_stand c.facts.ensures s
