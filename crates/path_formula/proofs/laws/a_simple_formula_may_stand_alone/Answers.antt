use Rattle.path_formula.proofs.KindLaws.{simple_alone}
use Rattle.path_formula.proofs.laws.a_simple_formula_may_stand_alone.Goals as goal

pub returns : goal.returns
returns c = simple_alone
