use Rattle.path_formula.proofs.KindLaws.{constant_over}
use Rattle.path_formula.proofs.laws.a_constant_formula_is_over_each_symbol.Goals as goal

pub returns : goal.returns
returns c = constant_over
