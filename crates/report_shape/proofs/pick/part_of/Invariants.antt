use Rattle.std.proofs.Common.{◌≡◌, drop, map}
use Rattle.report_shape.specs.Held.{field_of}
use Rattle.report_shape.specs.Faults.{part_of}
use Rattle.report_shape.proofs.pick.part_of.Given as goal

abbrev pub invariant-loop-name : goal.invariant-loop-name
invariant-loop-name l = part_of (map field_of l.fields) l.key ≡ part_of (map field_of (drop l.name-index l.fields)) l.key
