use Rattle.std.proofs.Common.{◌≡◌, ◌++◌, map, drop}
use Rattle.run_text.specs.Tokens.{tokens_of, ending}
use Rattle.run_text.specs.Forms.{list}
use Rattle.acl_command.specs.VerdictTexts.{range_data}
use Rattle.acl_command.proofs.verdict.write_ranges.Given as goal

-- what was written, and what is left, is the whole
abbrev pub invariant-loop-range : goal.invariant-loop-range
invariant-loop-range l = l.out ++ ending (map range_data (drop l.range-index l.ranges)) ≡ l.fn.out ++ tokens_of (list (map range_data l.ranges))
