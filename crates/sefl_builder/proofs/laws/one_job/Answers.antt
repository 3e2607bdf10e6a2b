use Rattle.sefl_builder.proofs.Jobs.{one_job}
use Rattle.sefl_builder.proofs.laws.one_job.Goals as goal

pub returns : goal.returns
returns c = one_job
