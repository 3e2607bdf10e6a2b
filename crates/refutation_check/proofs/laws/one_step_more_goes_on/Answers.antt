use Rattle.refutation_check.proofs.Stepping.{one_more}
use Rattle.refutation_check.proofs.laws.one_step_more_goes_on.Goals as goal

pub returns : goal.returns
returns c = λ cond before middle after steps step h k. one_more cond steps before middle after step h k
