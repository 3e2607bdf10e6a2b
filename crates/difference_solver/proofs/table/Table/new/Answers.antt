use Rattle.std.proofs.Common.{arith}
use Rattle.std.proofs.lemmas.Grind.{common_steps}
use Rattle.difference_solver.specs.Table.{entry}
use Rattle.difference_solver.proofs.table.Table.new.Goals as goal

pub returns-clause-empty : goal.returns-clause-empty
unfolding entry
returns-clause-empty c = λ p q. grind (arith, common_steps)
