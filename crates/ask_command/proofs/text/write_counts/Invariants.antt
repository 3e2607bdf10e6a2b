use Rattle.std.proofs.Common.{◌≡◌, ◌++◌, map, drop}
use Rattle.run_text.specs.Tokens.{tokens_of, ending}
use Rattle.run_text.specs.Forms.{count, list}
use Rattle.ask_command.proofs.text.write_counts.Given as goal

-- what was written, and what is left, is the whole
abbrev pub invariant-loop-count : goal.invariant-loop-count
invariant-loop-count l = l.out ++ ending (map count (drop l.count-index l.counts)) ≡ l.fn.out ++ tokens_of (list (map count l.counts))
