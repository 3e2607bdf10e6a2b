use Rattle.std.proofs.Common.{◌≡◌, drop}
use Rattle.path_cond.specs.Picks.{first_where}
use Rattle.path_solver.specs.Unmet.{is_unmet_at}
use Rattle.path_solver.proofs.outside.first_unmet.Given as goal

abbrev pub invariant-loop-pick : goal.invariant-loop-pick
invariant-loop-pick l =
    first_where (is_unmet_at l.cond l.values) l.picks ≡ first_where (is_unmet_at l.cond l.values) (drop l.pick-index l.picks)
