use Rattle.std.proofs.Common.{◌≡◌, drop}
use Rattle.std.specs.List.{position_from}
use Rattle.refutation_check.specs.Least.{is_broken_outside}
use Rattle.path_solver.proofs.base.first_broken_from.Given as goal

abbrev pub invariant-loop-pick : goal.invariant-loop-pick
invariant-loop-pick l =
    position_from (is_broken_outside l.values) l.first (drop l.first l.cond.entries) ≡ position_from (is_broken_outside l.values) l.pick (drop l.pick l.cond.entries)
