use Rattle.std.proofs.Common.{◌≡◌, drop}
use Rattle.std.specs.List.{list_all}
use Rattle.refutation_check.specs.Least.{holds_unless_outside}
use Rattle.path_solver.proofs.base.hold_from.Given as goal

abbrev pub invariant-loop-pick : goal.invariant-loop-pick
invariant-loop-pick l =
    list_all (holds_unless_outside l.values) (drop l.first l.cond.entries) ≡ list_all (holds_unless_outside l.values) (drop l.pick l.cond.entries)
