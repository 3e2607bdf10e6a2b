use Rattle.std.proofs.Common.{◌≡◌, ◌+◌, ◌≤◌, drop}
use Rattle.exact_records.specs.View.{record_trees}
use Rattle.compare_command.specs.Compares.{cut_count}
use Rattle.compare_command.proofs.comparing.cut_count.Given as goal

-- with those that are left it is the count of all, and at most the number of those that were looked at
abbrev pub invariant-loop-found : goal.invariant-loop-found
invariant-loop-found l =
    (l.count + cut_count (record_trees (drop l.found-index l.records)) ≡ cut_count (record_trees l.records)) × (l.count ≤ l.found-index)
