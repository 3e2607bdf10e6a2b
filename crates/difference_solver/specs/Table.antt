use Rattle.std.specs.Prelude.{ℕ, ◌+◌, ◌*◌, Option, None, nat_le, slice_index_or, if◌then◌else◌}
use Rattle.difference_solver.specs.declared.table.Table.{Table}
use Rattle.difference_solver.specs.declared.table.Kept.{Kept}

-- the bound that a table keeps on p less q
unfoldable pub entry : Table → ℕ → ℕ → Option Kept
entry t p q =
    if nat_le q t.count then slice_index_or t.entries.items (p * (t.count + 1) + q) None else None
