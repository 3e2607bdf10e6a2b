use Rattle.std.proofs.Common.{◌≡◌, ◌++◌, map, drop}
use Rattle.run_text.specs.Tokens.{tokens_of, ending}
use Rattle.run_text.specs.Forms.{decision_data, list}
use Rattle.run_text.proofs.parts.write_decisions.Given as goal

-- what was written, and what is left, is the whole
abbrev pub invariant-loop-decision : goal.invariant-loop-decision
invariant-loop-decision l = l.out ++ ending (map decision_data (drop l.decision-index l.decisions)) ≡ l.fn.out ++ tokens_of (list (map decision_data l.decisions))
