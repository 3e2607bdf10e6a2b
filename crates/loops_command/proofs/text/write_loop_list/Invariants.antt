use Rattle.std.proofs.Common.{◌≡◌, ◌++◌, map, drop}
use Rattle.run_text.specs.Tokens.{tokens_of, ending}
use Rattle.run_text.specs.Forms.{list}
use Rattle.loops_command.specs.Texts.{loop_data}
use Rattle.loops_command.proofs.text.write_loop_list.Given as goal

-- what was written, and what is left, is the whole
abbrev pub invariant-loop-found : goal.invariant-loop-found
invariant-loop-found l = l.out ++ ending (map loop_data (drop l.found-index l.loops)) ≡ l.fn.out ++ tokens_of (list (map loop_data l.loops))
