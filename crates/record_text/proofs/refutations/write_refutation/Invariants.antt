use Rattle.std.proofs.Common.{◌≡◌, ◌++◌, map, drop}
use Rattle.run_text.specs.Tokens.{tokens_of, ending}
use Rattle.run_text.specs.Forms.{list}
use Rattle.record_text.specs.Records.{step_data}
use Rattle.record_text.proofs.refutations.write_refutation.Given as goal

-- what was written, and what is left, is the whole
abbrev pub invariant-loop-step : goal.invariant-loop-step
invariant-loop-step l = l.out ++ ending (map step_data (drop l.step-index l.steps)) ≡ l.fn.out ++ tokens_of (list (map step_data l.steps))
