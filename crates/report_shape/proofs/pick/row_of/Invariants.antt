use Rattle.std.proofs.Common.{◌≡◌, drop, map}
use Rattle.report_shape.specs.Held.{row_of_held}
use Rattle.report_shape.specs.Faults.{row_of}
use Rattle.report_shape.proofs.pick.row_of.Given as goal

abbrev pub invariant-loop-row : goal.invariant-loop-row
invariant-loop-row l = row_of (map row_of_held l.rows) l.count ≡ row_of (map row_of_held (drop l.row-index l.rows)) l.count
