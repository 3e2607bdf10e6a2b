use Rattle.model_laws.proofs.Stacks.{holding, sets, pops}
use Rattle.model_laws.proofs.elements.hold_then_pop.Goals as goal

pub returns : goal.returns
returns g c = λ absent key width stacks put same ascending full pushes value.
    let o = g.met.K.Ord.total in
    let there = c.change_of_a_stack.ensures.there key in
    let removed = c.push_then_pop.ensures absent key width stacks put same ascending full pushes in
    let set = sets o absent key width stacks put pushes value there removed in (
      holding o absent key width stacks put pushes value there removed,
      set,
      c.set_then_read.ensures.there absent absent key width value put (holding o absent key width stacks put pushes value there removed) set,
      pops o absent key width stacks put pushes value there removed,
    )
