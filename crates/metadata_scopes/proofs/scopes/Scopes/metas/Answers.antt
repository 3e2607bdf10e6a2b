use Rattle.std.proofs.Common.{◌≡◌, ◌++◌, ap, ◌∙◌, map, rules}
use Rattle.std.specs.Vec.Iter.{into_iter_items}
use Rattle.cell_stacks.specs.Cells.{lent_stack}
use Rattle.metadata_scopes.specs.Scopes.{meta_of, lent_meta}
use Rattle.metadata_scopes.proofs.ListingLemmas.{regrouped, regrouped_all}
use Rattle.metadata_scopes.proofs.scopes.Scopes.metas.Goals as goal

pub loop-owner-init : goal.loop-owner-init
loop-owner-init g c =
    let rest : into_iter_items c.into_iter-owner-iterator.result ≡ c.in_ok-items.items.items = search rules in
    ap (λ metas. map lent_meta metas ++ map regrouped (map lent_stack (into_iter_items c.into_iter-owner-iterator.result))) c.new-metas.ensures.items
    ∙ ap (λ stacks. map regrouped (map lent_stack stacks)) rest ∙ ap (map regrouped) c.in_ok-items.ensures.all ∙ regrouped_all c.self.inside.cells ∙ ap (map meta_of) c.self.view_is
