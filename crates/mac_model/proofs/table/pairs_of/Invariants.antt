use Rattle.std.proofs.Common.{◌≡◌, map, take}
use Rattle.mac_model.specs.MacTables.{pair}
use Rattle.mac_model.proofs.table.pairs_of.Given as goal

abbrev pub invariant-loop-row : goal.invariant-loop-row
invariant-loop-row l = l.pairs.items ≡ map pair (take l.row-index l.rows)
