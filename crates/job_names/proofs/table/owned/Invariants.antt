use Rattle.std.proofs.Common.{◌≡◌, ◌++◌}
use Rattle.job_names.specs.Lent.{lent_names}
use Rattle.job_names.proofs.table.owned.Given as goal

-- the copies so far, and the names that are left
abbrev pub invariant-loop-name : goal.invariant-loop-name
invariant-loop-name l = l.copies.items ++ lent_names l.name-iterator ≡ lent_names l.names.keys
