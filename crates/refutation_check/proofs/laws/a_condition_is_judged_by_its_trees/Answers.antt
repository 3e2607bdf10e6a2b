use Rattle.path_formula.specs.View.{view}
use Rattle.refutation_check.proofs.Seeing.{judged}
use Rattle.refutation_check.proofs.laws.a_condition_is_judged_by_its_trees.Goals as goal

pub returns : goal.returns
returns c = judged view
