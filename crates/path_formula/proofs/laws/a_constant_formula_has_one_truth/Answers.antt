use Rattle.path_formula.proofs.KindLaws.{constant_truth}
use Rattle.path_formula.proofs.laws.a_constant_formula_has_one_truth.Goals as goal

pub returns : goal.returns
returns c = constant_truth
