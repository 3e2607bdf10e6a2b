use Rattle.std.proofs.Common.{◌≡◌, map, drop}
use Rattle.sefl_syntax.specs.Trees.{CodeTree}
use Rattle.sefl_syntax.specs.Views.{instr_tree}
use Rattle.table_nodes.specs.TableNodes.{guarded, set_guards, destination}
use Rattle.table_nodes.specs.Codes.{code_before, lists}
use Rattle.table_nodes.proofs.node.set_guards.Given as goal

abbrev pub invariant-loop-port : goal.invariant-loop-port
invariant-loop-port l =
    (last : CodeTree) → code_before (map instr_tree l.code.items) (guarded (set_guards (destination l.kind) l.port (lists (drop l.port l.sets))) last)
    ≡ guarded (set_guards (destination l.kind) 0 (lists l.sets)) last
