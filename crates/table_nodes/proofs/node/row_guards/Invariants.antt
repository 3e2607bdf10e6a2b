use Rattle.std.proofs.Common.{◌≡◌, map, take}
use Rattle.sefl_syntax.specs.Views.{instr_tree}
use Rattle.table_nodes.specs.TableNodes.{destination, guard_instr, row_guard}
use Rattle.table_nodes.proofs.node.row_guards.Given as goal

abbrev pub invariant-loop-row : goal.invariant-loop-row
invariant-loop-row l =
    record {
      code : map instr_tree l.code.items ≡ map (λ row. guard_instr (row_guard l.kind row)) (take l.row-index l.rows);
      cell : l.cell ≡ destination l.kind;
    }
