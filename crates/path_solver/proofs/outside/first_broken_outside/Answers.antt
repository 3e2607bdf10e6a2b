use Rattle.std.proofs.Common.{◌∙◌}
use Rattle.path_solver.proofs.Unmet.{first_is}
use Rattle.path_solver.proofs.outside.first_broken_outside.Goals as goal

pub returns : goal.returns
returns c =
    first_is c.the_first_of_the_picks_is_the_first_of_the_formulas.ensures c.args.cond.now c.args.values.now c.first_unmet.result c.deref.result.now
    (c.deref.ensures.value ∙ c.in_ok-picks.ensures) c.first_unmet.ensures
