use Rattle.std.proofs.Common.{◌≡◌, ◌++◌, map, drop}
use Rattle.run_text.specs.Tokens.{tokens_of, ending}
use Rattle.net_check.specs.Network.{network}
use Rattle.run_text.specs.Forms.{list}
use Rattle.record_text.specs.Records.{record_data}
use Rattle.record_text.proofs.report.write_records.Given as goal

-- what was written, and what is left, is the whole
abbrev pub invariant-loop-entry : goal.invariant-loop-entry
invariant-loop-entry l = l.out ++ ending (map (record_data (network l.net)) (drop l.entry-index l.records)) ≡ l.fn.out ++ tokens_of (list (map (record_data (network l.net)) l.records))
