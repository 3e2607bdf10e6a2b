use Rattle.std.proofs.Common.{rules}
use Rattle.sefl_lex.specs.Words.{are_digits}
use Rattle.sefl_lex.proofs.number.value_in.Goals as goal

pub returns-then-is_empty-clause-none : goal.returns-then-is_empty-clause-none
unfolding are_digits
returns-then-is_empty-clause-none c = search rules

pub returns-clause-some : goal.returns-clause-some
unfolding are_digits
returns-clause-some c = search rules

pub returns-clause-none : goal.returns-clause-none
unfolding are_digits
returns-clause-none c = search rules
