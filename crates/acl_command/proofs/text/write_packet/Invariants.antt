use Rattle.std.proofs.Common.{◌≡◌, ◌++◌, map, drop}
use Rattle.run_text.specs.Tokens.{tokens_of, ending}
use Rattle.run_text.specs.Forms.{count, list}
use Rattle.acl_command.proofs.text.write_packet.Given as goal

-- what was written, and what is left, is the whole
abbrev pub invariant-loop-value : goal.invariant-loop-value
invariant-loop-value l = l.out ++ ending (map count (drop l.value-index l.values)) ≡ l.fn.out ++ tokens_of (list (map count l.values))
