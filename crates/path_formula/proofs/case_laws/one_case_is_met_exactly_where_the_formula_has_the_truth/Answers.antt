use Rattle.path_formula.proofs.CaseMeaning.{met_formula}
use Rattle.path_formula.proofs.case_laws.one_case_is_met_exactly_where_the_formula_has_the_truth.Goals as goal

pub returns : goal.returns
returns c = λ f holds widths values split typed fit. met_formula widths values fit f holds split typed
