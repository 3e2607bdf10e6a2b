use Rattle.std.proofs.Common.{◌≡◌, map, take}
use Rattle.metadata_scopes.specs.Scopes.{lent_meta}
use Rattle.path_records.specs.Shown.{held_meta}
use Rattle.sym_state.proofs.fields.metas_copied.Given as goal

abbrev pub invariant-loop-owner : goal.invariant-loop-owner
invariant-loop-owner l = map held_meta l.list.items ≡ map lent_meta (take l.owner-index l.metas)
