use Rattle.std.proofs.Common.{◌++◌, List, length, reverse}
use Rattle.std.specs.List.{AllZip}
use Rattle.difference_solver.specs.Lifting.{IsLowered}
use Rattle.difference_solver.specs.declared.choice.Step.{Step}
use Rattle.difference_solver.proofs.lift.lower.Given as goal

abbrev pub invariant-loop-step : goal.invariant-loop-step
invariant-loop-step l = (ys : List Step)
    → AllZip (IsLowered l.first l.width) l.steps.items ys
    → AllZip (IsLowered l.first l.width) l.initial.steps.items (ys ++ reverse l.after.items)

abbrev pub decreases-loop-step : goal.decreases-loop-step
decreases-loop-step l = length l.steps.items
