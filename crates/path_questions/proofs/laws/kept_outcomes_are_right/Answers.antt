use Rattle.path_questions.proofs.Right.{kept_is_right}
use Rattle.path_questions.proofs.laws.kept_outcomes_are_right.Goals as goal

pub returns : goal.returns
returns c = λ net i hops. kept_is_right net i hops (c.below.ensures net i hops)
