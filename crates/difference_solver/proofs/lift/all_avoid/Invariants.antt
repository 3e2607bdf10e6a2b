use Rattle.std.proofs.Common.{◌≡◌, drop}
use Rattle.difference_solver.specs.Lifting.{all_avoid}
use Rattle.difference_solver.proofs.lift.all_avoid.Given as goal

abbrev pub invariant-loop-step : goal.invariant-loop-step
invariant-loop-step l = all_avoid l.first l.limit l.steps ≡ all_avoid l.first l.limit (drop l.step-index l.steps)
