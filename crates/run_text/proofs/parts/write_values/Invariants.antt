use Rattle.std.proofs.Common.{◌≡◌, ◌++◌, map, drop}
use Rattle.run_text.specs.Tokens.{tokens_of, ending}
use Rattle.run_text.specs.Forms.{value_data, list}
use Rattle.run_text.proofs.parts.write_values.Given as goal

-- what was written, and what is left, is the whole
abbrev pub invariant-loop-value : goal.invariant-loop-value
invariant-loop-value l = l.out ++ ending (map value_data (drop l.value-index l.values)) ≡ l.fn.out ++ tokens_of (list (map value_data l.values))
