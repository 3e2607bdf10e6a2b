use Rattle.std.proofs.Common.{drop}
use Rattle.report_forms.specs.Fits.{Fit128}
use Rattle.report_forms.proofs.numbers.values_fit.Given as goal

abbrev pub invariant-loop-value : goal.invariant-loop-value
invariant-loop-value l = Fit128 (drop l.value-index l.values) → Fit128 l.values
