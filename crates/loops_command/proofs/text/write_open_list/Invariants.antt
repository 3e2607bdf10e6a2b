use Rattle.std.proofs.Common.{◌≡◌, ◌++◌, map, drop}
use Rattle.run_text.specs.Tokens.{tokens_of, ending}
use Rattle.run_text.specs.Forms.{list}
use Rattle.loops_command.specs.Seen.{opened}
use Rattle.loops_command.specs.Texts.{open_data}
use Rattle.loops_command.proofs.text.write_open_list.Given as goal

-- what was written, and what is left, is the whole
abbrev pub invariant-loop-number : goal.invariant-loop-number
invariant-loop-number l =
    l.out ++ ending (map (open_data l.detail) (map opened (drop l.number-index l.others))) ≡ l.fn.out ++ tokens_of (list (map (open_data l.detail) (map opened l.others)))
