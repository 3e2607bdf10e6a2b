use Rattle.path_solver.proofs.MovedLemmas.{none_inside}
use Rattle.path_solver.proofs.moved.has_no_inside.Goals as goal

pub returns : goal.returns
returns c = λ yes. none_inside c.args.cond.now c.inside_picks.result.now c.inside_picks.ensures (c.is_empty.ensures.0 yes)
