use Rattle.std.proofs.Common.{◌≡◌, to_z, of_z, w32, ◌∙◌, sym, ap, int_cmp}
use Rattle.cell_stacks.specs.Cells.{pushed}
use Rattle.header_layers.specs.Layout.{Layout}
use Rattle.header_layers.specs.Spaced.{overlaps}
use Rattle.header_layers.proofs.SpacedLemmas.{Extents, after_step, apart_allocated}
use Rattle.header_layers.proofs.layers.Layers.allocate.Goals as goal

pub invariant_of-self : goal.invariant_of-self
invariant_of-self g c =
    let view : c.self.inside.heads ≡ c.args.self.now.heads = ap (λ (s : Layout g.row.V.Denot). s.heads) c.self.view_is in
    let key = to_z w32 (of_z w32 c.in_ok-address.address) in
    after_step Extents (pushed int_cmp key c.args.width c.self.inside.heads) c.push.result c.self.inside.heads c.push.new.self c.self.invariant
    (λ next h. apart_allocated key c.args.width c.self.inside.heads next c.push.ensures.stacks c.self.invariant (ap (overlaps key c.args.width) view ∙ sym c.overlaps.ensures ∙ c.if-overlaps.false) h)
    c.push.ensures.step
