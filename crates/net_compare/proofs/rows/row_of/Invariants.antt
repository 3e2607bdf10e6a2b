use Rattle.std.proofs.Common.{◌≡◌, ◌++◌, drop, map}
use Rattle.net_compare.specs.Rows.{lent}
use Rattle.net_compare.proofs.rows.row_of.Given as goal

-- with those that are left they are all
abbrev pub invariant-loop-pick : goal.invariant-loop-pick
invariant-loop-pick l = map lent l.row.items ++ drop l.pick l.condition.entries ≡ l.condition.entries
