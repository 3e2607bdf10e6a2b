use Rattle.std.proofs.Common.{◌≡◌, ◌++◌, map, reverse, length}
use Rattle.path_solver.specs.Origins.{refute_from}
use Rattle.path_solver.proofs.steps.refutation_of.Given as goal

abbrev pub invariant-loop-step : goal.invariant-loop-step
invariant-loop-step l =
    map (refute_from l.origins) l.steps.items ++ reverse l.refutes.items
    ≡ map (refute_from l.origins) l.initial.steps.items

abbrev pub decreases-loop-step : goal.decreases-loop-step
decreases-loop-step l = length l.steps.items
