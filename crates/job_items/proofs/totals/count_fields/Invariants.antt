use Rattle.std.proofs.Common.{◌≡◌, drop}
use Rattle.job_items.specs.Totals.{counts_of, with_fields}
use Rattle.job_items.proofs.totals.count_fields.Given as goal

abbrev pub invariant-loop-field : goal.invariant-loop-field
invariant-loop-field l = with_fields (counts_of l.tally) (drop l.field-index l.fields) ≡ with_fields (counts_of l.fn.tally) l.fields
