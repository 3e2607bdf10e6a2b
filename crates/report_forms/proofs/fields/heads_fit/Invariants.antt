use Rattle.std.proofs.Common.{drop, map}
use Rattle.std.specs.List.{AllByRecursion}
use Rattle.path_records.specs.Shown.{held_head}
use Rattle.report_forms.specs.Ranges.{HeadInRange}
use Rattle.report_forms.proofs.fields.heads_fit.Given as goal

abbrev pub invariant-loop-head : goal.invariant-loop-head
invariant-loop-head l = AllByRecursion HeadInRange (map held_head (drop l.head-index l.heads)) → AllByRecursion HeadInRange (map held_head l.heads)
