use Rattle.std.proofs.Common.{◌≡◌, drop, map}
use Rattle.report_shape.specs.Held.{named_of}
use Rattle.report_shape.specs.Faults.{row_named}
use Rattle.report_shape.proofs.pick.row_named.Given as goal

abbrev pub invariant-loop-word : goal.invariant-loop-word
invariant-loop-word l = row_named (map named_of l.rows) l.name l.count ≡ row_named (map named_of (drop l.word-index l.rows)) l.name l.count
