use Rattle.std.proofs.Common.{drop}
use Rattle.exact_records.specs.View.{record_trees}
use Rattle.command_edge.specs.declared.ending.Ending.{Ending}
use Rattle.explore_command.specs.Explores.{IsEnding}
use Rattle.compare_command.proofs.comparing.ending_of.Given as goal

-- as those that are left end, all end
abbrev pub invariant-loop-record : goal.invariant-loop-record
invariant-loop-record l = (ending : Ending) → IsEnding ending (record_trees (drop l.record-index l.records)) → IsEnding ending (record_trees l.records)
