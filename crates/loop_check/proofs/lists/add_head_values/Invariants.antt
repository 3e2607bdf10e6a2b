use Rattle.std.proofs.Common.{◌≡◌, ◌++◌, map, drop}
use Rattle.cell_stacks.specs.Cells.{lent_stack}
use Rattle.loop_check.specs.Lists.{head_values, terms_of}
use Rattle.loop_check.proofs.lists.add_head_values.Given as goal

-- what was added, and what is left, is the whole
abbrev pub invariant-loop-cells : goal.invariant-loop-cells
invariant-loop-cells l = terms_of l.values.items ++ head_values (map lent_stack (drop l.cells-index l.heads)) ≡ terms_of l.fn.values.items ++ head_values (map lent_stack l.heads)
