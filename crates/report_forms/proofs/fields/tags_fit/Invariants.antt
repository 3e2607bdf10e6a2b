use Rattle.std.proofs.Common.{drop}
use Rattle.std.specs.List.{AllByRecursion}
use Rattle.report_forms.specs.Ranges.{TagInRange}
use Rattle.report_forms.proofs.fields.tags_fit.Given as goal

abbrev pub invariant-loop-tag : goal.invariant-loop-tag
invariant-loop-tag l = AllByRecursion TagInRange (drop l.tag-index l.tags) → AllByRecursion TagInRange l.tags
