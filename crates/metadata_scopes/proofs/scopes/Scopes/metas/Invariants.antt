use Rattle.std.proofs.Common.{◌≡◌, ◌++◌, map}
use Rattle.std.specs.Vec.Iter.{into_iter_items}
use Rattle.cell_stacks.specs.Cells.{lent_stack}
use Rattle.metadata_scopes.specs.Scopes.{meta_of, lent_meta}
use Rattle.metadata_scopes.proofs.ListingLemmas.{regrouped}
use Rattle.metadata_scopes.proofs.scopes.Scopes.metas.Given as goal

-- what was listed, and what is left of the stacks, are all metadata
abbrev pub invariant-loop-owner : goal.invariant-loop-owner
invariant-loop-owner g l = map lent_meta l.metas.items ++ map regrouped (map lent_stack (into_iter_items l.owner-iterator)) ≡ map meta_of l.self
