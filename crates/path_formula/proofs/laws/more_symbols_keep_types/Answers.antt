use Rattle.path_formula.proofs.Typings.{term-kept, formula-kept}
use Rattle.path_formula.proofs.laws.more_symbols_keep_types.Goals as goal

pub returns : goal.returns
returns c = record { term = term-kept; formula = formula-kept }
