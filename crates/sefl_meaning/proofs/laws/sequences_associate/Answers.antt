use Rattle.sefl_meaning.proofs.Associating.{runs_associate, courses_associate}
use Rattle.sefl_meaning.proofs.laws.sequences_associate.Goals as goal

pub returns-clause-runs : goal.returns-clause-runs
returns-clause-runs g c = λ r first second. runs_associate r first second

pub returns-clause-courses : goal.returns-clause-courses
returns-clause-courses g c = λ course first second. courses_associate course first second
