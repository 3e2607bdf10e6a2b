use Rattle.path_formula.proofs.CaseMeaning.{met_single}
use Rattle.path_formula.proofs.case_laws.one_range_is_met_exactly_where_the_value_passes.Goals as goal

pub returns : goal.returns
returns c = λ symbol width test values fits. met_single values symbol width test fits
