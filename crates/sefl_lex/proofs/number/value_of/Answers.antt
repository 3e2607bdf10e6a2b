use Rattle.std.proofs.Common.{arith}
use Rattle.std.proofs.lemmas.Grind.{common_steps}
use Rattle.sefl_lex.specs.Words.{is_number, value_of}
use Rattle.sefl_lex.proofs.number.value_of.Goals as goal

pub returns-then-is_hexadecimal-clause-some : goal.returns-then-is_hexadecimal-clause-some
unfolding is_number
returns-then-is_hexadecimal-clause-some c = grind (arith, common_steps)

pub returns-then-is_hexadecimal-clause-value : goal.returns-then-is_hexadecimal-clause-value
unfolding value_of
returns-then-is_hexadecimal-clause-value c = grind (arith, common_steps)

pub returns-then-is_hexadecimal-clause-none : goal.returns-then-is_hexadecimal-clause-none
unfolding is_number
returns-then-is_hexadecimal-clause-none c = grind (arith, common_steps)

pub returns-clause-some : goal.returns-clause-some
unfolding is_number
returns-clause-some c = grind (arith, common_steps)

pub returns-clause-value : goal.returns-clause-value
unfolding value_of
returns-clause-value c = grind (arith, common_steps)

pub returns-clause-none : goal.returns-clause-none
unfolding is_number
returns-clause-none c = grind (arith, common_steps)
