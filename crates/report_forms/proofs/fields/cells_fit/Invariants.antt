use Rattle.std.proofs.Common.{drop}
use Rattle.std.specs.List.{AllByRecursion}
use Rattle.report_forms.specs.Ranges.{CellInRange}
use Rattle.report_forms.proofs.fields.cells_fit.Given as goal

abbrev pub invariant-loop-cell : goal.invariant-loop-cell
invariant-loop-cell l = AllByRecursion CellInRange (drop l.cell-index l.cells) → AllByRecursion CellInRange l.cells
