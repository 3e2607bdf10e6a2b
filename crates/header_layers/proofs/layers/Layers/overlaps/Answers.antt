use Rattle.std.proofs.Common.{◌≡◌, subst, sym, ap, to_z, of_z, w32, int_cmp}
use Rattle.std.proofs.lemmas.Int.{to_z-of_z}
use Rattle.sn_tree.specs.Pairs.{IsAscending}
use Rattle.header_layers.specs.Layout.{Layout}
use Rattle.header_layers.specs.Spaced.{overlaps}
use Rattle.header_layers.proofs.SpacedLemmas.{overlap_above, overlap_below}
use Rattle.header_layers.proofs.layers.Layers.overlaps.Goals as goal

pub returns-then-begins_before : goal.returns-then-begins_before
returns-then-begins_before g c =
    let view : c.self.inside.heads ≡ c.args.self.now.heads = ap (λ (s : Layout g.row.V.Denot). s.heads) c.self.view_is in
    let key = to_z w32 (of_z w32 c.args.address) in
    let same : key ≡ c.args.address = to_z-of_z w32 c.args.address c.ranges.address in
    subst (λ z. c.begins_before.result ≡ overlaps z c.args.width c.args.self.now.heads) same
    (rw (← c.self.view_is) (overlap_above key c.args.width c.self.inside.heads (subst (IsAscending int_cmp) (sym view) c.requires) c.self.invariant c.above-above.result c.begins_before.result c.above-above.ensures c.begins_before.ensures c.if-begins_before.true))

pub returns-else-begins_before : goal.returns-else-begins_before
returns-else-begins_before g c =
    let view : c.self.inside.heads ≡ c.args.self.now.heads = ap (λ (s : Layout g.row.V.Denot). s.heads) c.self.view_is in
    let key = to_z w32 (of_z w32 c.args.address) in
    let same : key ≡ c.args.address = to_z-of_z w32 c.args.address c.ranges.address in
    subst (λ z. c.ends_after.result ≡ overlaps z c.args.width c.args.self.now.heads) same
    (rw (← c.self.view_is) (overlap_below key c.args.width c.self.inside.heads (subst (IsAscending int_cmp) (sym view) c.requires) c.self.invariant c.above-above.result c.below-below.result c.begins_before.result c.ends_after.result c.above-above.ensures c.below-below.ensures c.begins_before.ensures c.if-begins_before.false c.ends_after.ensures))
