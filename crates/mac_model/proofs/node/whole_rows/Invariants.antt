use Rattle.std.proofs.Common.{◌≡◌, map, take}
use Rattle.mac_model.specs.Nodes.{whole}
use Rattle.mac_model.proofs.node.whole_rows.Given as goal

abbrev pub invariant-loop-row : goal.invariant-loop-row
invariant-loop-row l = l.wholes.items ≡ map whole (take l.row-index l.rows)
