use Rattle.cell_stacks.proofs.ValuedLemmas.{pushed_valued, popped_valued, with_top_valued, top_value_valued}
use Rattle.cell_stacks.proofs.laws.valuing_commutes.Goals as goal

pub returns-clause-push : goal.returns-clause-push
returns-clause-push g c = λ f key width stacks. pushed_valued f g.K.Ord.cmp key width stacks

pub returns-clause-pop : goal.returns-clause-pop
returns-clause-pop g c = λ f absent key width stacks. popped_valued f g.K.Ord.cmp absent key width stacks

pub returns-clause-set : goal.returns-clause-set
returns-clause-set g c = λ f absent key width value stacks. with_top_valued f g.K.Ord.cmp absent key width value stacks

pub returns-clause-top : goal.returns-clause-top
returns-clause-top g c = λ f absent key width stacks. top_value_valued f g.K.Ord.cmp absent key width stacks
