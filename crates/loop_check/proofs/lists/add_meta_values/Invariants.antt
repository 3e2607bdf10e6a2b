use Rattle.std.proofs.Common.{◌≡◌, ◌++◌, map, drop}
use Rattle.metadata_scopes.specs.Scopes.{lent_meta}
use Rattle.loop_check.specs.Lists.{meta_values, terms_of}
use Rattle.loop_check.proofs.lists.add_meta_values.Given as goal

-- what was added, and what is left, is the whole
abbrev pub invariant-loop-cells : goal.invariant-loop-cells
invariant-loop-cells l = terms_of l.values.items ++ meta_values (map lent_meta (drop l.cells-index l.metas)) ≡ terms_of l.fn.values.items ++ meta_values (map lent_meta l.metas)
