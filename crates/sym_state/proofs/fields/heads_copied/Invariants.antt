use Rattle.std.proofs.Common.{◌≡◌, map, take}
use Rattle.cell_stacks.specs.Cells.{lent_stack}
use Rattle.path_records.specs.Shown.{held_head}
use Rattle.sym_state.proofs.fields.heads_copied.Given as goal

abbrev pub invariant-loop-address : goal.invariant-loop-address
invariant-loop-address l = map held_head l.list.items ≡ map lent_stack (take l.address-index l.heads)
