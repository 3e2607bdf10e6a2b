use Rattle.std.proofs.Common.{◌≡◌, ◌++◌, map, drop}
use Rattle.run_text.specs.Tokens.{tokens_of, ending}
use Rattle.run_text.specs.Forms.{list}
use Rattle.loops_command.specs.Texts.{visit_data}
use Rattle.loops_command.proofs.text.write_visit_list.Given as goal

-- what was written, and what is left, is the whole
abbrev pub invariant-loop-visit : goal.invariant-loop-visit
invariant-loop-visit l = l.out ++ ending (map visit_data (drop l.visit-index l.visits)) ≡ l.fn.out ++ tokens_of (list (map visit_data l.visits))
