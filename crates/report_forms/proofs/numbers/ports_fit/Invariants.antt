use Rattle.std.proofs.Common.{drop}
use Rattle.std.specs.List.{AllByRecursion}
use Rattle.report_forms.specs.Ranges.{PortFits}
use Rattle.report_forms.proofs.numbers.ports_fit.Given as goal

abbrev pub invariant-loop-place : goal.invariant-loop-place
invariant-loop-place l = AllByRecursion PortFits (drop l.place-index l.places) → AllByRecursion PortFits l.places
