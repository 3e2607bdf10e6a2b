use Rattle.path_formula.proofs.KindLaws.{simple_over}
use Rattle.path_formula.proofs.laws.a_simple_formula_is_over_its_symbol.Goals as goal

pub returns : goal.returns
returns c = simple_over
