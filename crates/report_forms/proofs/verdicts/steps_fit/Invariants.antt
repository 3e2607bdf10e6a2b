use Rattle.std.proofs.Common.{drop}
use Rattle.std.specs.List.{AllByRecursion}
use Rattle.report_forms.specs.Fits.{StepFits}
use Rattle.report_forms.proofs.verdicts.steps_fit.Given as goal

abbrev pub invariant-loop-step : goal.invariant-loop-step
invariant-loop-step l = AllByRecursion StepFits (drop l.step-index l.steps) → AllByRecursion StepFits l.steps
