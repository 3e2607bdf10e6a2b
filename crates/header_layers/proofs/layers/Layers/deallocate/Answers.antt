use Rattle.std.proofs.Common.{to_z, of_z, w32, int_cmp}
use Rattle.sn_width.specs.declared.faults.LayoutFault.TheVariants.{NoField}
use Rattle.cell_stacks.specs.Cells.{popped}
use Rattle.header_layers.proofs.SpacedLemmas.{Extents, after_step, apart_popped}
use Rattle.header_layers.proofs.layers.Layers.deallocate.Goals as goal

pub invariant_of-self : goal.invariant_of-self
invariant_of-self g c =
    let key = to_z w32 (of_z w32 c.in_ok-address.address) in
    after_step Extents (popped int_cmp NoField key c.args.width c.self.inside.heads) c.pop.result c.self.inside.heads c.pop.new.self c.self.invariant
    (λ next h. apart_popped key c.args.width c.self.inside.heads next c.pop.ensures.stacks c.self.invariant NoField h)
    c.pop.ensures.step
