use Rattle.sefl_meaning.proofs.laws.stack_laws.Goals as goal

pub returns : goal.returns
returns g c = record {
  tags = record { there = c.change_of_a_stack.ensures.there; elsewhere = c.change_of_a_stack.ensures.elsewhere };
  heads = record { there = c.change_of_a_stack-2.ensures.there; elsewhere = c.change_of_a_stack-2.ensures.elsewhere };
  metas = record { there = c.change_of_a_stack-3.ensures.there; elsewhere = c.change_of_a_stack-3.ensures.elsewhere };
}
