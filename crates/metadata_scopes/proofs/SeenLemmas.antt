-- What holds of the stacks inside holds of what is seen.
use Rattle.std.proofs.Common.{◌≡◌, subst}
use Rattle.cell_stacks.specs.Cells.{AreStacks}
use Rattle.metadata_scopes.specs.Scopes.{Metadata, key_cmp}

pub seen_stacks : {V : Type 0} (inside scopes : Metadata V) → AreStacks key_cmp inside → inside ≡ scopes → AreStacks key_cmp scopes
seen_stacks inside scopes stacks same = subst (AreStacks key_cmp) same stacks
