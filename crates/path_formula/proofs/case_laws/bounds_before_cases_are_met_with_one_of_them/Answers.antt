use Rattle.path_formula.proofs.CaseMeaning.{met_with}
use Rattle.path_formula.proofs.case_laws.bounds_before_cases_are_met_with_one_of_them.Goals as goal

pub returns : goal.returns
returns c = λ bounds cases values. met_with values cases bounds
