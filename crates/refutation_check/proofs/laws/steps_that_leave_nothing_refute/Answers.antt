use Rattle.refutation_check.proofs.Stepping.{nothing_left}
use Rattle.refutation_check.proofs.laws.steps_that_leave_nothing_refute.Goals as goal

pub returns : goal.returns
returns c = λ cond before steps h. nothing_left cond steps before h
