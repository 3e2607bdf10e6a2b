use Rattle.std.proofs.Common.{◌≡◌, ◌++◌, map, drop}
use Rattle.run_text.specs.Tokens.{tokens_of, ending}
use Rattle.run_text.specs.Forms.{list}
use Rattle.acl_command.specs.Texts.{step_data}
use Rattle.acl_command.proofs.text.write_cover.Given as goal

-- what was written, and what is left, is the whole
abbrev pub invariant-loop-step : goal.invariant-loop-step
invariant-loop-step l = l.out ++ ending (map step_data (drop l.step-index l.cover)) ≡ l.fn.out ++ tokens_of (list (map step_data l.cover))
