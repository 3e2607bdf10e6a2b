use Rattle.path_cond.proofs.Narrowness.{coupled_are_narrow}
use Rattle.path_cond.proofs.count_laws.coupled_symbols_have_at_most_64_bits.Goals as goal

pub returns : goal.returns
returns c = coupled_are_narrow c.an_inside_formula_has_cases.ensures
