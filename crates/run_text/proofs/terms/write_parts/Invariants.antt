use Rattle.std.proofs.Common.{◌≡◌, ◌++◌, ◌-◌, length, map, drop}
use Rattle.run_text.specs.Tokens.{tokens_of, ending}
use Rattle.run_text.specs.Forms.{term_part_data, list}
use Rattle.run_text.proofs.terms.write_parts.Given as goal

-- what was written, and what is left, is the whole
abbrev pub invariant-loop-symbol : goal.invariant-loop-symbol
invariant-loop-symbol l = l.out ++ ending (map term_part_data (drop l.index l.term.parts)) ≡ l.fn.out ++ tokens_of (list (map term_part_data l.term.parts))

abbrev pub decreases-loop-symbol : goal.decreases-loop-symbol
decreases-loop-symbol l = length l.term.parts - l.index
