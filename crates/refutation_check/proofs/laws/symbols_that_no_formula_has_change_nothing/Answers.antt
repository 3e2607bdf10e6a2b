use Rattle.path_formula.specs.View.{view}
use Rattle.path_cond.specs.Seen.{itself}
use Rattle.refutation_check.proofs.Widening.{widen_freely}
use Rattle.refutation_check.proofs.laws.symbols_that_no_formula_has_change_nothing.Goals as goal

pub returns : goal.returns
returns c =
    let law = c.a_simple_formula_has_a_known_symbol.ensures in
    record { formulas = widen_freely view law; trees = widen_freely itself law }
