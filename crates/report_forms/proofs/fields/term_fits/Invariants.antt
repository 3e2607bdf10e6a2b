use Rattle.std.proofs.Common.{◌-◌, drop, length}
use Rattle.std.specs.List.{AllByRecursion}
use Rattle.report_forms.specs.Fits.{PartFits}
use Rattle.report_forms.proofs.fields.term_fits.Given as goal

abbrev pub decreases-loop-symbol : goal.decreases-loop-symbol
decreases-loop-symbol l = length l.term.parts - l.index

abbrev pub invariant-loop-symbol : goal.invariant-loop-symbol
invariant-loop-symbol l = AllByRecursion PartFits (drop l.index l.term.parts) → AllByRecursion PartFits l.term.parts
