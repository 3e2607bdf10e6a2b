use Rattle.std.proofs.Common.{drop}
use Rattle.report_forms.specs.Fits.{Fit32}
use Rattle.report_forms.proofs.numbers.ids_fit.Given as goal

abbrev pub invariant-loop-id : goal.invariant-loop-id
invariant-loop-id l = Fit32 (drop l.id-index l.ids) → Fit32 l.ids
