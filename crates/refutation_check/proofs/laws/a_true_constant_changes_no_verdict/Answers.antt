use Rattle.path_formula.specs.View.{view}
use Rattle.path_cond.specs.Seen.{itself}
use Rattle.refutation_check.proofs.Constants.{constants_are_free}
use Rattle.refutation_check.proofs.laws.a_true_constant_changes_no_verdict.Goals as goal

pub returns : goal.returns
returns c =
    let law = c.a_constant_formula_has_one_truth.ensures in
    record { formulas = constants_are_free view law; trees = constants_are_free itself law }
