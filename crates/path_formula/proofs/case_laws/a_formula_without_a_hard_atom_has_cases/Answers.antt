use Rattle.path_formula.proofs.Narrow.{easy_splits}
use Rattle.path_formula.proofs.case_laws.a_formula_without_a_hard_atom_has_cases.Goals as goal

pub returns : goal.returns
returns c = λ f widths easy typed. easy_splits widths f easy typed
