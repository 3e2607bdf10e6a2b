use Rattle.job_names.proofs.Ascending.{as_set-ascending, as_set-members}
use Rattle.job_names.proofs.laws.sets_ascend.Goals as goal

pub returns-clause-ascending : goal.returns-clause-ascending
returns-clause-ascending c = as_set-ascending

pub returns-clause-members : goal.returns-clause-members
returns-clause-members c = as_set-members
