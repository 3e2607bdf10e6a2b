use Rattle.std.proofs.Common.{drop}
use Rattle.std.specs.List.{AllByRecursion}
use Rattle.report_forms.specs.Fits.{DecisionFits}
use Rattle.report_forms.proofs.numbers.decisions_fit.Given as goal

abbrev pub invariant-loop-decision : goal.invariant-loop-decision
invariant-loop-decision l = AllByRecursion DecisionFits (drop l.decision-index l.decisions) → AllByRecursion DecisionFits l.decisions
