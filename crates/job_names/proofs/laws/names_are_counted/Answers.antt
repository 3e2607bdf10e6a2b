use Rattle.job_names.proofs.Counting.{meta_names-counted}
use Rattle.job_names.proofs.laws.names_are_counted.Goals as goal

pub returns : goal.returns
returns c = meta_names-counted
