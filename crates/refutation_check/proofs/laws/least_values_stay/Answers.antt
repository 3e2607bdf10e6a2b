use Rattle.path_formula.specs.View.{view}
use Rattle.path_cond.specs.Seen.{itself}
use Rattle.refutation_check.proofs.Staying.{least_stay}
use Rattle.refutation_check.proofs.laws.least_values_stay.Goals as goal

pub returns : goal.returns
returns c = record { formulas = least_stay view; trees = least_stay itself }
