use Rattle.std.proofs.Common.{◌≡◌, ◌++◌, map, reverse, length}
use Rattle.difference_solver.specs.Parts.{placed}
use Rattle.difference_solver.proofs.parts.all_placed.Given as goal

abbrev pub invariant-loop-step : goal.invariant-loop-step
invariant-loop-step l =
    map (placed l.places) l.steps.items ++ reverse l.found.items ≡ map (placed l.places) l.initial.steps.items

abbrev pub decreases-loop-step : goal.decreases-loop-step
decreases-loop-step l = length l.steps.items
