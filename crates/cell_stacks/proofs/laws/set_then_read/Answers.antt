use Rattle.cell_stacks.proofs.OrderLemmas.{value_that_was_set, value_elsewhere}
use Rattle.cell_stacks.proofs.laws.set_then_read.Goals as goal

pub returns-clause-there : goal.returns-clause-there
returns-clause-there g c = λ absent other key width value stacks next set. value_that_was_set g.met.K.Ord.total absent other key width value stacks next set

pub returns-clause-elsewhere : goal.returns-clause-elsewhere
returns-clause-elsewhere g c = λ absent other key elsewhere width size value stacks next apart set. value_elsewhere g.met.K.Ord.total absent other key elsewhere width size value stacks next apart set
