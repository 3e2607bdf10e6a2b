use Rattle.std.proofs.Common.{to_z, of_z, w32, int_cmp}
use Rattle.sn_width.specs.declared.faults.LayoutFault.TheVariants.{NoField}
use Rattle.cell_stacks.specs.Cells.{with_top}
use Rattle.header_layers.proofs.SpacedLemmas.{Extents, after_step, apart_set}
use Rattle.header_layers.proofs.layers.Layers.assign.Goals as goal

pub invariant_of-self : goal.invariant_of-self
invariant_of-self g c =
    let key = to_z w32 (of_z w32 c.in_ok-address.address) in
    after_step Extents (with_top int_cmp NoField key c.args.width c.args.value c.self.inside.heads) c.set.result c.self.inside.heads c.set.new.self c.self.invariant
    (λ next h. apart_set key c.args.width c.self.inside.heads next c.set.ensures.stacks c.self.invariant NoField c.args.value h)
    c.set.ensures.step
