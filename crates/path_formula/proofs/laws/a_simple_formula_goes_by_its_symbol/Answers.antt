use Rattle.path_formula.proofs.KindLaws.{simple_truth}
use Rattle.path_formula.proofs.laws.a_simple_formula_goes_by_its_symbol.Goals as goal

pub returns : goal.returns
returns c = simple_truth
