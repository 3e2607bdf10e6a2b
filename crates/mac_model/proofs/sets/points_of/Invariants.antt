use Rattle.std.proofs.Common.{◌≡◌, map, take}
use Rattle.mac_model.specs.Nodes.{point}
use Rattle.mac_model.proofs.sets.points_of.Given as goal

abbrev pub invariant-loop-row : goal.invariant-loop-row
invariant-loop-row l = l.points.items ≡ map point (take l.row-index l.rows)
