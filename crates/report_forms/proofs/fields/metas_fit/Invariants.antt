use Rattle.std.proofs.Common.{drop, map}
use Rattle.std.specs.List.{AllByRecursion}
use Rattle.path_records.specs.Shown.{held_meta}
use Rattle.report_forms.specs.Ranges.{MetaInRange}
use Rattle.report_forms.proofs.fields.metas_fit.Given as goal

abbrev pub invariant-loop-meta : goal.invariant-loop-meta
invariant-loop-meta l = AllByRecursion MetaInRange (map held_meta (drop l.meta-index l.metas)) → AllByRecursion MetaInRange (map held_meta l.metas)
