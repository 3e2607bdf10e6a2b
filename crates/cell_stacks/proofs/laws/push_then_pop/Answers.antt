use Rattle.cell_stacks.proofs.OrderLemmas.{pop_after_push}
use Rattle.cell_stacks.proofs.laws.push_then_pop.Goals as goal

pub returns : goal.returns
returns g c = λ absent key width stacks next same ascending full pushed. pop_after_push g.met.K.Ord.total same absent key width stacks next ascending full pushed
