use Rattle.std.proofs.Common.{◌-◌, length}
use Rattle.sefl_lex.proofs.Steps.{Progress}
use Rattle.sefl_lex.proofs.lex.tokens.Given as goal

abbrev pub invariant-loop-at : goal.invariant-loop-at
invariant-loop-at l = Progress l.bytes l.found.items l.at

abbrev pub decreases-loop-at : goal.decreases-loop-at
decreases-loop-at l = length l.bytes - l.at
