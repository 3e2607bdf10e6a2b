use Rattle.std.proofs.Common.{◌≡◌, ◌==◌, ◌++◌, filter, drop}
use Rattle.mac_model.proofs.sets.rows_of.Given as goal

abbrev pub invariant-loop-row : goal.invariant-loop-row
invariant-loop-row l = l.own.items ++ filter (λ row. row.1 == l.port) (drop l.row-index l.rows) ≡ filter (λ row. row.1 == l.port) l.rows
