use Rattle.std.proofs.Common.{drop}
use Rattle.std.specs.List.{AllByRecursion}
use Rattle.net_check.specs.Keeping.{HasWidth}
use Rattle.net_check.proofs.injection.fields_have_widths.Given as goal

abbrev pub invariant-loop-field : goal.invariant-loop-field
invariant-loop-field l = AllByRecursion HasWidth (drop l.field-index l.fields) → AllByRecursion HasWidth l.fields
