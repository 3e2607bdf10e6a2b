use Rattle.std.proofs.Common.{◌≡◌, ◌++◌, map, drop}
use Rattle.run_text.specs.Tokens.{tokens_of, ending}
use Rattle.run_text.specs.Forms.{list}
use Rattle.acl_command.specs.VerdictTexts.{joint_step_data}
use Rattle.acl_command.proofs.verdict.write_steps.Given as goal

-- what was written, and what is left, is the whole
abbrev pub invariant-loop-step : goal.invariant-loop-step
invariant-loop-step l =
    l.out ++ ending (map (joint_step_data l.left) (drop l.step-index l.steps)) ≡ l.fn.out ++ tokens_of (list (map (joint_step_data l.left) l.steps))
