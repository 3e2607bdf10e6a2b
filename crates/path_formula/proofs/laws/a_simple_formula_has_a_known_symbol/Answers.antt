use Rattle.path_formula.proofs.KindLaws.{simple_known}
use Rattle.path_formula.proofs.laws.a_simple_formula_has_a_known_symbol.Goals as goal

pub returns : goal.returns
returns c = simple_known
