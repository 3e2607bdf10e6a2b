use Rattle.cell_stacks.proofs.OrderLemmas.{stack_at_new, stack_at_other}
use Rattle.cell_stacks.proofs.laws.change_of_a_stack.Goals as goal

pub returns-clause-there : goal.returns-clause-there
returns-clause-there g c = λ key members stacks. stack_at_new g.met.K.Ord.total key stacks members

pub returns-clause-elsewhere : goal.returns-clause-elsewhere
returns-clause-elsewhere g c = λ key other members stacks apart. stack_at_other g.met.K.Ord.total key stacks other members apart
