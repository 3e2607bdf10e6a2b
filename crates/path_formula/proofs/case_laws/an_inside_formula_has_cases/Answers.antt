use Rattle.path_formula.proofs.Narrow.{inside_splits}
use Rattle.path_formula.proofs.case_laws.an_inside_formula_has_cases.Goals as goal

pub returns : goal.returns
returns c = inside_splits
